use Rattle.description_shapes.specs.Calculations.{assignment, expression, constant, name, operator, unknown, other}
use Rattle.description_shapes.proofs.calculations.is_calculation.Goals as goal

pub returns-in-SetStatement : goal.returns-in-SetStatement
returns-in-SetStatement c = λ _. (assignment, c.in-SetStatement.is)

pub returns-in-Expression : goal.returns-in-Expression
returns-in-Expression c = λ _. (expression, c.in-Expression.is)

pub returns-in-Constant : goal.returns-in-Constant
returns-in-Constant c = λ _. (constant, c.in-Constant.is)

pub returns-in-LocalName : goal.returns-in-LocalName
returns-in-LocalName c = λ _. (name, c.in-LocalName.is)

pub returns-in-Operator : goal.returns-in-Operator
returns-in-Operator c = λ _. (operator, c.in-Operator.is)

pub returns-in-UnknownExpression : goal.returns-in-UnknownExpression
returns-in-UnknownExpression c = λ _. (unknown, c.in-UnknownExpression.is)

pub returns-in-Anything : goal.returns-in-Anything
returns-in-Anything c = λ _. (other, c.in-Anything.is)
