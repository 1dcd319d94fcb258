-- The pages of entries, and whether all of them are placed.
use Rattle.std.proofs.Common.{◌↔◌, ℕ, ◌<◌, List, [], ◌∷◌, length, flat_map, sym, ◌∙◌, ap, subst, arith}
use Rattle.std.specs.Prelude.{All}
use Rattle.std.proofs.lemmas.List.{length-append}
use Rattle.std.proofs.lemmas.List.Elements.{All-nil, All-cons, All-head, All-tail}
use Rattle.rs_page.specs.declared.place.PageRef.{PageRef}
use Rattle.rs_directory.specs.Directory.{ref_bytes, IsLawfulRef, AreEntries, BeginsWith}
use Rattle.rs_image.proofs.FromBelow.{length-ref_bytes, length-entries, same_entry}
use Rattle.rs_image.specs.Loading.{IsPagePlaced}

-- The remaining entries: those of pages on which it depends whether all are placed.
pub record Left (size : ℕ) (pages : List PageRef) (rest : List ℕ) : Type 0 where
  pub more : List PageRef
  pub are : AreEntries rest more
  pub same : All (IsPagePlaced size) pages ↔ All (IsPagePlaced size) more

pub all_left : (size : ℕ) (pages : List PageRef) (rest : List ℕ) → AreEntries rest pages → Left size pages rest
all_left size pages rest are = record { more = pages; are = are; same = (λ all. all, λ all. all) }

-- no entry is left where fewer bytes are left than one has
pub none_left : (size : ℕ) (pages : List PageRef) (rest : List ℕ) → length rest < 44 → Left size pages rest → All (IsPagePlaced size) pages
none_left size pages rest short left = by_more left.more left.are left.same
  where
    by_more : (more : List PageRef) → AreEntries rest more → (All (IsPagePlaced size) pages ↔ All (IsPagePlaced size) more) → All (IsPagePlaced size) pages
    by_more [] are same = same.1 (All-nil (IsPagePlaced size))
    by_more (page ∷ more) are same = absurd (omega (arith, short, ap length are.spelled, length-entries (page ∷ more) are.lawful))

-- One more entry was checked: where its page is placed, it depends on the later entries; where it is not, not all are.
pub one_seen : (size : ℕ) (pages : List PageRef) (rest after : List ℕ) (page : PageRef) → BeginsWith rest page after → Left size pages rest
    → (All (IsPagePlaced size) pages → IsPagePlaced size page) × (IsPagePlaced size page → Left size pages after)
one_seen size pages rest after page begins left = by_more left.more left.are left.same
  where
    by_more : (more : List PageRef) → AreEntries rest more → (All (IsPagePlaced size) pages ↔ All (IsPagePlaced size) more)
        → (All (IsPagePlaced size) pages → IsPagePlaced size page) × (IsPagePlaced size page → Left size pages after)
    by_more [] are same = absurd (omega (arith, ap length begins.spelled, ap length are.spelled, length-append (ref_bytes page) after, length-ref_bytes page begins.lawful))
    by_more (other ∷ more) are same =
        let one = same_entry page other after (flat_map ref_bytes more) begins.lawful (All-head IsLawfulRef other more are.lawful) (sym begins.spelled ∙ are.spelled) in (
          λ all. subst (IsPagePlaced size) (sym one.0) (All-head (IsPagePlaced size) other more (same.0 all)),
          λ placed. record {
            more = more;
            are = record { lawful = All-tail IsLawfulRef other more are.lawful; spelled = one.1 };
            same = (
              λ all. All-tail (IsPagePlaced size) other more (same.0 all),
              λ all. same.1 (All-cons (IsPagePlaced size) other more (subst (IsPagePlaced size) one.0 placed) all),
            );
          },
        )
