-- The items of a page as memory holds them.
use Rattle.std.specs.Prelude.{Bool, true, false, List}
use Rattle.rs_page.specs.declared.shared.Holder.{Holder}
use Rattle.rs_page.specs.declared.shared.Holder.TheVariants.{Own, Shared}

-- The items, and whether the page alone has them.
pub record HeldItems (T : Type 0) : Type 0 where
  pub items : List T
  pub own : Bool

-- the items that are held
abbrev pub items_held : {T : Type 0} → Holder T → List T
items_held (Own items) = items.items
items_held (Shared items) = items.value.items

-- no other page has them
abbrev pub is_own : {T : Type 0} → Holder T → Bool
is_own (Own items) = true
is_own (Shared items) = false
