use Rattle.end_search.proofs.SameNames.{joined_elements, joined_operations}
use Rattle.end_search.proofs.matches.matches_of.Goals as goal

pub returns-in_ok-pairs-in-SenderReceiver-kind :
    goal.returns-in_ok-pairs-in-SenderReceiver-kind
returns-in_ok-pairs-in-SenderReceiver-kind c = λ i j. joined_elements _ _ c.args.provided.now.names c.args.required.now.names c.args.provided.now.kind.now c.args.required.now.kind.now i j _
    c.in-SenderReceiver.is c.in-SenderReceiver-kind.is c.args.provided.now.named c.args.required.now.named (c.in_ok-pairs-in-SenderReceiver-kind.ensures i j)

pub returns-in_ok-pairs-in-ClientServer-kind :
    goal.returns-in_ok-pairs-in-ClientServer-kind
returns-in_ok-pairs-in-ClientServer-kind c = λ i j. joined_operations _ _ c.args.provided.now.names c.args.required.now.names c.args.provided.now.kind.now c.args.required.now.kind.now i j _
    c.in-ClientServer.is c.in-ClientServer-kind.is c.args.provided.now.named c.args.required.now.named (c.in_ok-pairs-in-ClientServer-kind.ensures i j)
