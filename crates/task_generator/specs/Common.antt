-- The names that proofs and the crates above cite, passed on from one place. Declares nothing.
pub use Rattle.task_generator.specs.Bounds.{loops, loops_of_body, steps, steps_of_body}
pub use Rattle.task_generator.specs.Code.{activity_code, calling_code, code_of, code_of_body, ending_code, fetching_code, given_over, looping_code, parts_of, publishing_code, returning_code}
pub use Rattle.task_generator.specs.Code.{slots_among}
pub use Rattle.task_generator.specs.Coded.{HaveCodes, coded_shape, same_code, shape_of_code}
pub use Rattle.task_generator.specs.Counts.{count_of}
pub use Rattle.task_generator.specs.Found.{Key, access_in, same_key}
pub use Rattle.task_generator.specs.Nothing.{do_nothing, does_nothing}
pub use Rattle.task_generator.specs.Numbers.{counts_among, numbered, numbers, numbers_from}
pub use Rattle.task_generator.specs.Servers.{arguments_in, in_places, served}
pub use Rattle.task_generator.specs.Shapes.{budget_of, shape_of, shape_of_body}
pub use Rattle.task_generator.specs.Shared.{after_code, before_code, calling_shared, choosing_shared, fixed, looping_shared, shared_of, shared_of_body, targets_of}
pub use Rattle.task_generator.specs.Slots.{slot_of}
