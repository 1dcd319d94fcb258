-- The changes that have facts.
use Rattle.std.specs.Prelude.{Bool, Option, is_some, is_none}
use Rattle.rs_record.specs.declared.facts.Facts.{Facts}
use Rattle.rs_record.specs.declared.change.What.{What}
use Rattle.rs_record.specs.declared.change.What.TheVariants.{Created, Updated, Deleted}

-- a change has facts unless the resource was deleted
abbrev pub agree : What → Option Facts → Bool
agree Created facts = is_some facts
agree Updated facts = is_some facts
agree Deleted facts = is_none facts
