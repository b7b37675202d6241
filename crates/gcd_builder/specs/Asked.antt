-- What is expected of an object's kind.
use Rattle.std.specs.Prelude.{Bool, true}
use Rattle.gcd_plan.specs.Kinds.{is_queue_kind, is_source_kind, is_node_kind, is_group_kind, is_semaphore_kind, is_merge_kind}
use Rattle.gcd_plan.specs.declared.kind.Kind.{Kind}
use Rattle.gcd_builder.specs.declared.asked.Asked.{Asked}
use Rattle.gcd_builder.specs.declared.asked.Asked.TheVariants.{Queue, Source, Node, Group, Semaphore, MergeSource, Any}

-- the test of kinds that is asked
abbrev pub asks : Asked → (Kind → Bool)
asks Queue = is_queue_kind
asks Source = is_source_kind
asks Node = is_node_kind
asks Group = is_group_kind
asks Semaphore = is_semaphore_kind
asks MergeSource = is_merge_kind
asks Any = λ kind. true
