-- The content of a slot, and the state of the slots of an image that follows from it.
use Rattle.std.proofs.Common.{true≢false, ◌≡◌, ℕ, ◌<◌, Bool, true, false, ◌&&◌, nat_lt, nat_eq, if◌then◌else◌, List, length, take, Some, None, refl, sym, ◌∙◌, ap, subst, arith}
use Rattle.std.proofs.lemmas.Bool.{and_parts, and_from}
use Rattle.std.proofs.lemmas.Bool.Decides.{nat_tests}
use Rattle.rs_commit.specs.declared.root.Root.{Root}
use Rattle.rs_commit.specs.declared.slot.Slot.{Slot}
use Rattle.rs_commit.specs.declared.slot.Slot.TheVariants.{First, Second}
use Rattle.rs_commit.specs.declared.slot.SlotContent.{SlotContent}
use Rattle.rs_commit.specs.declared.slot.SlotContent.TheVariants.{Closed, Unknown, Open}
use Rattle.rs_commit.specs.Slots.{other, block, gate, version, root_in, is_known, is_open, content, Standing, pick, current, OpensTo}
use Rattle.rs_commit.proofs.Blocks.{front_blocks}

is_same : (m n : ℕ) → m ≡ n → nat_eq m n ≡ true
is_same m n same = grind (arith, nat_tests)

above : (m n : ℕ) → m < n → nat_lt m n ≡ true
above m n lt = grind (arith, nat_tests)

below : (m n : ℕ) → m < n → nat_lt n m ≡ false
below m n lt = grind (arith, nat_tests)

never : (a b : Bool) → b ≡ false → (a && b) ≡ false
never true b off = off
never false b off = refl

-- a gate of 0 isn't open
pub not_open : (byte : ℕ) → byte ≡ 0 → byte ≡ 1 → ⊥
not_open byte zero one = let no : 0 ≡ 1 = sym zero ∙ one in absurd (omega (arith, no))

-- the content of a slot whose gate isn't 1 is Closed
pub closed : (bytes : List ℕ) → (gate bytes ≡ 1 → ⊥) → content bytes ≡ Closed
unfolding content
closed bytes shut =
    let gate_off : nat_eq (gate bytes) 1 ≡ false = grind (arith, nat_tests) in
    let off : is_open bytes ≡ false = never (nat_eq (length bytes) 512) (nat_eq (gate bytes) 1) gate_off in
    ap (λ (b : Bool). if b then (if is_known (version bytes) then Open (root_in bytes) else Unknown) else Closed) off

pub closed_gate : (bytes : List ℕ) → gate bytes ≡ 0 → content bytes ≡ Closed
closed_gate bytes shut = closed bytes (not_open (gate bytes) shut)

-- a whole one whose gate is 1 is open,
is_on : (bytes : List ℕ) → length bytes ≡ 512 → gate bytes ≡ 1 → is_open bytes ≡ true
is_on bytes long one = and_from (nat_eq (length bytes) 512) (nat_eq (gate bytes) 1) (is_same (length bytes) 512 long) (is_same (gate bytes) 1 one)

-- and holds the root of a known version
pub opened : (bytes : List ℕ) (root : Root) → length bytes ≡ 512 → gate bytes ≡ 1 → is_known (version bytes) ≡ true → root_in bytes ≡ root → content bytes ≡ Open root
unfolding content
opened bytes root long one known tells =
    (λ i. if is_on bytes long one i then (if known i then Open (root_in bytes) else Unknown) else Closed) ∙ ap Open tells

open_from : (o k : Bool) (a root : Root) → (if o then (if k then Open a else Unknown) else Closed) ≡ Open root → o ≡ true
open_from true k a root e = refl
open_from false k a root e = absurd cc

closed_from : (o k : Bool) (a : Root) → (if o then (if k then Open a else Unknown) else Closed) ≡ Closed → o ≡ false
closed_from false k a e = refl
closed_from true true a e = absurd cc
closed_from true false a e = absurd cc

-- the gate of a slot that holds a root is 1
pub gate_of_open : (bytes : List ℕ) (root : Root) → content bytes ≡ Open root → gate bytes ≡ 1
unfolding content
gate_of_open bytes root is =
    let on : is_open bytes ≡ true = open_from (is_open bytes) (is_known (version bytes)) (root_in bytes) root is in
    let gate_on : nat_eq (gate bytes) 1 ≡ true = (and_parts (nat_eq (length bytes) 512) (nat_eq (gate bytes) 1) on).1 in
    grind (arith, nat_tests)

-- and a whole slot with this content has another gate than 1
pub gate_of_closed : (bytes : List ℕ) → length bytes ≡ 512 → content bytes ≡ Closed → gate bytes ≡ 1 → ⊥
unfolding content
gate_of_closed bytes long is one =
    let off : is_open bytes ≡ false = closed_from (is_open bytes) (is_known (version bytes)) (root_in bytes) is in
    true≢false (sym (is_on bytes long one) ∙ off)

-- one slot holds a root, and the content of the other slot is Closed
pub one_open : (image : List ℕ) (s : Slot) (root : Root) → content (block image s) ≡ Open root → content (block image (other s)) ≡ Closed
    → current image ≡ Some (record { slot = s; root = root; spare_open = false })
unfolding current
one_open image First root here there = λ i. pick (here i) (there i)
one_open image Second root here there = λ i. pick (there i) (here i)

-- both hold one, and this one is newer
pub two_open : (image : List ℕ) (s : Slot) (root spare : Root) → content (block image s) ≡ Open root → content (block image (other s)) ≡ Open spare → spare.generation < root.generation
    → current image ≡ Some (record { slot = s; root = root; spare_open = true })
unfolding current
two_open image First root spare here there greater =
    (λ i. pick (here i) (there i))
    ∙ ap (λ (b : Bool). if b then Some (record { slot = First; root = root; spare_open = true }) else (if nat_lt root.generation spare.generation then Some (record { slot = Second; root = spare; spare_open = true }) else None))
    (above spare.generation root.generation greater)
two_open image Second root spare here there greater =
    (λ i. pick (there i) (here i))
    ∙ (λ i. if below spare.generation root.generation greater i then Some (record { slot = First; root = spare; spare_open = true })
    else (if above spare.generation root.generation greater i then Some (record { slot = Second; root = root; spare_open = true }) else None))

-- The contents of the slots in this state.
pub record Says (slots : Standing) (says : Slot → SlotContent) : Type 0 where
  pub here : says slots.slot ≡ Open slots.root
  pub told : slots.spare_open ≡ true → (root : Root) × (says (other slots.slot) ≡ Open root)
  pub shut : slots.spare_open ≡ false → says (other slots.slot) ≡ Closed

says_one : (says : Slot → SlotContent) (s : Slot) (root : Root) (spare_open : Bool) (slots : Standing) → says s ≡ Open root
    → (spare_open ≡ true → (spare : Root) × (says (other s) ≡ Open spare)) → (spare_open ≡ false → says (other s) ≡ Closed)
    → Some (record { slot = s; root = root; spare_open = spare_open }) ≡ Some slots → Says slots says
says_one says s root spare_open slots here told shut e =
    let one : Standing = record { slot = s; root = root; spare_open = spare_open } in
    let same : Some one ≡ Some slots = e in
    let is : one ≡ slots = cc in
    subst (λ (x : Standing). Says x says) is (record { here = here; told = told; shut = shut })

says_newer : (says : Slot → SlotContent) (a b : Root) (u v : Bool) (slots : Standing) → says First ≡ Open a → says Second ≡ Open b
    → (if u then Some (record { slot = First; root = a; spare_open = true }) else (if v then Some (record { slot = Second; root = b; spare_open = true }) else None)) ≡ Some slots
    → Says slots says
says_newer says a b true v slots one two e = says_one says First a true slots one (λ _. (b, two)) (λ off. absurd (true≢false off)) e
says_newer says a b false true slots one two e = says_one says Second b true slots two (λ _. (a, one)) (λ off. absurd (true≢false off)) e
says_newer says a b false false slots one two e = absurd cc

says_from : (says : Slot → SlotContent) (c d : SlotContent) (slots : Standing) → says First ≡ c → says Second ≡ d → pick c d ≡ Some slots → Says slots says
says_from says (Open a) Closed slots one two e = says_one says First a false slots one (λ on. absurd (true≢false (sym on))) (λ _. two) e
says_from says Closed (Open b) slots one two e = says_one says Second b false slots two (λ on. absurd (true≢false (sym on))) (λ _. one) e
says_from says (Open a) (Open b) slots one two e = says_newer says a b (nat_lt b.generation a.generation) (nat_lt a.generation b.generation) slots one two e
says_from says (Open a) Unknown slots one two e = absurd cc
says_from says Closed Closed slots one two e = absurd cc
says_from says Closed Unknown slots one two e = absurd cc
says_from says Unknown d slots one two e = absurd cc

pub says : (image : List ℕ) (slots : Standing) → current image ≡ Some slots → Says slots (λ s. content (block image s))
unfolding current
says image slots is = says_from (λ s. content (block image s)) (content (block image First)) (content (block image Second)) slots refl refl is

-- the state of the slots depends on the first 1,024 bytes alone
pub current_stays : (one two : List ℕ) → take 1024 one ≡ take 1024 two → current one ≡ current two
unfolding current
current_stays one two same = λ i. pick (content (front_blocks one two same First i)) (content (front_blocks one two same Second i))

pub opens_stays : (one two : List ℕ) (root : Root) → take 1024 one ≡ take 1024 two → OpensTo root one → OpensTo root two
opens_stays one two root same opens = (opens.0, sym (current_stays one two same) ∙ opens.1, opens.2)

-- an image opens to one root
pub opens_once : (image : List ℕ) (a b : Root) → OpensTo a image → OpensTo b image → a ≡ b
opens_once image a b one two =
    let same : Some one.0 ≡ Some two.0 = sym one.1 ∙ two.1 in
    let stands : one.0 ≡ two.0 = cc in
    sym one.2 ∙ ap (λ (s : Standing). s.root) stands ∙ two.2

pub same_blocks : (one two : List ℕ) (s : Slot) → block one s ≡ block two s → block one (other s) ≡ block two (other s) → current one ≡ current two
unfolding current
same_blocks one two First here there = λ i. pick (content (here i)) (content (there i))
same_blocks one two Second here there = λ i. pick (content (there i)) (content (here i))

-- a whole one whose gate is 1 and whose version isn't known
pub unknown : (bytes : List ℕ) → length bytes ≡ 512 → gate bytes ≡ 1 → is_known (version bytes) ≡ false → content bytes ≡ Unknown
unfolding content
unknown bytes long one differs =
    λ i. if is_on bytes long one i then (if differs i then Open (root_in bytes) else Unknown) else Closed

-- the content of a block that the disk doesn't have whole is Closed
pub missing : (bytes : List ℕ) → length bytes < 512 → content bytes ≡ Closed
unfolding content
missing bytes short =
    let size : nat_eq (length bytes) 512 ≡ false = grind (arith, nat_tests) in
    ap (λ (b : Bool). if b && nat_eq (gate bytes) 1 then (if is_known (version bytes) then Open (root_in bytes) else Unknown) else Closed) size

-- the state of the slots of an image follows from their contents
pub current_by : (image : List ℕ) (first second : SlotContent) → first ≡ content (block image First) → second ≡ content (block image Second) → current image ≡ pick first second
unfolding current
current_by image first second one two = λ i. pick (sym one i) (sym two i)
