-- How many parts a list has, and where they lie.
use Rattle.std.proofs.Common.{◌≡◌, ℕ, suc, zero, ◌+◌, ◌-◌, ◌*◌, ◌<◌, ◌≤◌, arith, div-add-mod'}
use Rattle.std.proofs.lemmas.Nat.{mod_below}
use Rattle.rs_lists.specs.Chunks.{parts_of}

-- the parts hold all items
pub parts_cover : (n limit : ℕ) → 0 < limit → n ≤ parts_of n limit * limit
parts_cover n limit h = omega (arith, div-add-mod' (n + limit - 1) limit, mod_below (n + limit - 1) limit h)

-- and no part is empty
pub parts_tight : (n limit : ℕ) → 0 < limit → parts_of n limit * limit < n + limit
parts_tight n limit h = omega (arith, div-add-mod' (n + limit - 1) limit, mod_below (n + limit - 1) limit h)

pub scale : (a b limit : ℕ) → a ≤ b → a * limit ≤ b * limit
scale a b limit h =
    let e : a + (b - a) ≡ b = omega arith in
    let d : (a + (b - a)) * limit ≡ a * limit + (b - a) * limit = grind arith in
    let d' : b * limit ≡ a * limit + (b - a) * limit = rw e at d in
    omega arith

few_from : (p n limit : ℕ) → 2 ≤ limit → n ≤ 50000 → p * limit < n + limit → p ≤ 25000
few_from zero n limit h few tight = omega arith
few_from (suc q) n limit h few tight =
    let d : suc q * limit ≡ q * limit + limit = grind arith in
    let s = scale 2 limit q h in
    let a : limit * q ≡ q * limit = grind arith in
    omega arith

-- at most 50,000 items make at most 25,000 parts
pub parts_few : (n limit : ℕ) → 2 ≤ limit → n ≤ 50000 → parts_of n limit ≤ 25000
parts_few n limit h few = few_from (parts_of n limit) n limit h few (parts_tight n limit (omega arith))

-- one part holds no more than the limit
pub one_part : (n limit : ℕ) → 0 < limit → parts_of n limit ≤ 1 → n ≤ limit
one_part n limit h few = omega (arith, parts_cover n limit h, scale (parts_of n limit) 1 limit few)
