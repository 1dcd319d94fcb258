-- A document as a section of its list, and the text of the section.
use Rattle.std.specs.Prelude.{ℕ, ◌<◌, List}
use Rattle.rs_lists.specs.declared.document.Section.{Section}
use Rattle.rs_lists.specs.declared.document.Section.TheVariants.{ResourceHead, ResourcePart, ChangeHead, ChangePart}
use Rattle.rs_lists.specs.Listed.{resources, changes, parts_in, head_text, part_text}
use Rattle.rs_lists.specs.Shown.{Shown}

-- the text of the section
abbrev pub section_text : Shown → Section → List ℕ
section_text s ResourceHead = head_text resources s
section_text s (ResourcePart k) = part_text resources s k
section_text s ChangeHead = head_text changes s
section_text s (ChangePart k) = part_text changes s k

-- a part is one of the parts that its list has
abbrev pub IsWithin : Shown → Section → Type 0
IsWithin s ResourceHead = Unit {0}
IsWithin s (ResourcePart k) = k < parts_in resources s
IsWithin s ChangeHead = Unit {0}
IsWithin s (ChangePart k) = k < parts_in changes s
