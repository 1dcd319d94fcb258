-- The items of every kind of page.
use Rattle.std.specs.Prelude.{Option, Some, None, option_map, IsTrue, refl}
use Rattle.rs_fixity.specs.declared.Digests.{Digests}
use Rattle.rs_record.specs.declared.record.Record.{Record}
use Rattle.rs_record.specs.declared.facts.Facts.{Facts}
use Rattle.rs_record.specs.declared.change.What.{What}
use Rattle.rs_record.specs.declared.change.What.TheVariants.{Created, Updated, Deleted}
use Rattle.rs_record.specs.declared.change.Change.{Change}
use Rattle.rs_record.specs.ChangeKind.{agree}
use Rattle.rs_record.specs.Format.{record_bytes, change_bytes}
use Rattle.rs_record.specs.Lawful.{IsLawfulRecord, IsLawfulChange}
use Rattle.rs_page.specs.declared.kind.PageKind.TheVariants.{Records, Changes}
use Rattle.rs_page.specs.Format.{ItemFormat}

-- records
abbrev pub record_format : ItemFormat Record
record_format = record { kind = Records; bytes = record_bytes; IsLawful = IsLawfulRecord }

-- changes
abbrev pub change_format : ItemFormat Change
change_format = record { kind = Changes; bytes = change_bytes; IsLawful = IsLawfulChange }

-- a record with these digests
abbrev pub record_filled : Digests → Record → Record
record_filled digests r = record r { digests = digests }

-- facts with these digests
abbrev pub facts_filled : Digests → Facts → Facts
facts_filled digests f = record f { digests = digests }

pub filled_agree : (what : What) (digests : Digests) (facts : Option Facts) → IsTrue (agree what facts) → IsTrue (agree what (option_map (facts_filled digests) facts))
filled_agree Created digests None h = h
filled_agree Created digests (Some f) h = refl
filled_agree Updated digests None h = h
filled_agree Updated digests (Some f) h = refl
filled_agree Deleted digests None h = refl
filled_agree Deleted digests (Some f) h = h

-- a change whose facts, if it has some, have these digests
abbrev pub change_filled : Digests → Change → Change
change_filled digests c =
    record c { facts = option_map (facts_filled digests) c.facts; agreed = filled_agree c.what digests c.facts c.agreed }
