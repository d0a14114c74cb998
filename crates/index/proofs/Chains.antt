-- Laws of a chain that is followed: each number rises, so enough turns are always left.
use Prim.Native.Nat.{ℕ, zero, suc, ◌+◌, ◌-◌, ◌≤◌, ◌<◌}
use mathlib.Core.Bool.{Bool, true, false, ◌||◌}
use mathlib.Core.List.{List}
use mathlib.Core.Path.{◌≡◌, refl, sym, ◌∙◌, ap}
use native.Mathlib.Omega.{arith}
use borrow.Author.Tests.{eq-eqb, ne_eqb, lt-ltb, le-ltb, le-leb, lt-leb}
use lib.Dec.{leb, ltb}
use lib.ListN.{get_or}
use Rattle.octets.specs.Paper.{Paper}
use Rattle.octets.specs.Refusals.{not_there}
use Rattle.octets.proofs.Tests.{held, failed}
use Rattle.runtime.specs.Addresses.{found, missing}
use Rattle.index.specs.Index.{row_matches, chain, chain_from}

-- one turn
module _ (p : ℕ → Bool) (links : List ℕ) (rows n last number : ℕ) where
  pub chain-ends : number ≡ 0 → chain p links rows (suc n) last number ≡ missing
  unfolding chain
  chain-ends e = held _ _ (eq-eqb _ _ e)

  module _ (e : number ≡ 0 → ⊥) where
    asked : (elim (ltb rows number || leb number last) as (λ (c : Bool). Paper) [ true ↦ not_there | false ↦ elim (p (number - 1)) as (λ (c : Bool). Paper) [ true ↦ found (number - 1) | false ↦ chain p links rows n number (get_or links (number - 1) 0) ] ])
        ≡ chain p links rows (suc n) last number
    unfolding chain
    asked = sym (failed _ _ (ne_eqb _ _ e))

    pub chain_leaves : rows < number → chain p links rows (suc n) last number ≡ not_there
    chain_leaves h = sym asked ∙ held _ _ (ap (λ (b : Bool). b || leb number last) (lt-ltb _ _ h))

    module _ (h : number ≤ rows) where
      in_rows : (ltb rows number || leb number last) ≡ leb number last
      in_rows = ap (λ (b : Bool). b || leb number last) (le-ltb _ _ h)

      pub chain-falls : number ≤ last → chain p links rows (suc n) last number ≡ not_there
      chain-falls g = sym asked ∙ held _ _ (in_rows ∙ le-leb _ _ g)

      module _ (g : last < number) where
        followed : (elim (p (number - 1)) as (λ (c : Bool). Paper) [ true ↦ found (number - 1) | false ↦ chain p links rows n number (get_or links (number - 1) 0) ]) ≡ chain p links rows (suc n) last number
        followed = sym (sym asked ∙ failed _ _ (in_rows ∙ lt-leb _ _ g))

        pub chain-found : p (number - 1) ≡ true → chain p links rows (suc n) last number ≡ found (number - 1)
        chain-found m = sym followed ∙ held _ _ m

        pub chain-on : p (number - 1) ≡ false → chain p links rows (suc n) last number ≡ chain p links rows n number (get_or links (number - 1) 0)
        chain-on m = sym followed ∙ failed _ _ m

-- How far a chain was followed, and what is left of it.
pub record Following (t : List ℕ) (rows : ℕ) (links : List ℕ) (address head last number : ℕ) : Type 0 where
  pub turns : ℕ
  pub enough : rows < last + turns
  pub inside : last ≤ rows
  pub same : chain_from t rows links address head ≡ chain (row_matches t address) links rows turns last number

module _ (t : List ℕ) (rows : ℕ) (links : List ℕ) (address head : ℕ) where
  pub following_starts : Following t rows links address head 0 head
  unfolding chain_from
  following_starts = record { turns = suc rows; enough = omega arith; inside = omega arith; same = refl }

  module _ (last number : ℕ) (f : Following t rows links address head last number) where
    abbrev p : ℕ → Bool
    p = row_matches t address

    one_more : (n : ℕ) × (f.turns ≡ suc n)
    one_more = go f.turns f.enough
      where
        go : (n : ℕ) → rows < last + n → (m : ℕ) × (n ≡ suc m)
        go zero g = absurd (omega (arith, f.inside))
        go (suc m) g = (m, refl)

    abbrev n : ℕ
    n = one_more.0

    turned : chain_from t rows links address head ≡ chain p links rows (suc n) last number
    turned = f.same ∙ ap (λ (m : ℕ). chain p links rows m last number) one_more.1

    pub following_ends : number ≡ 0 → missing ≡ chain_from t rows links address head
    following_ends e = sym (turned ∙ chain-ends p links rows n last number e)

    module _ (e : number ≡ 0 → ⊥) where
      pub following_leaves : rows < number → not_there ≡ chain_from t rows links address head
      following_leaves h = sym (turned ∙ chain_leaves p links rows n last number e h)

      module _ (h : number ≤ rows) where
        pub following_falls : number ≤ last → not_there ≡ chain_from t rows links address head
        following_falls g = sym (turned ∙ chain-falls p links rows n last number e h g)

        module _ (g : last < number) (row : ℕ) (q : row ≡ number - 1) where
          pub following_found : p row ≡ true → found row ≡ chain_from t rows links address head
          following_found m = rw q (sym (turned ∙ chain-found p links rows n last number e h g (rw q at m)))

          pub following_on : p row ≡ false → Following t rows links address head number (get_or links row 0)
          following_on m =
              record {
                turns = n;
                enough = omega (arith, f.enough, one_more.1);
                inside = h;
                same = turned ∙ chain-on p links rows n last number e h g (rw q at m) ∙ ap (λ (i : ℕ). chain p links rows n number (get_or links i 0)) (sym q);
              }
