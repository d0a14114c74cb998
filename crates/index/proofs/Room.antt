-- Laws of what both calls ask first.
use Prim.Native.Nat.{ℕ, ◌≤◌, ◌<◌, max}
use mathlib.Core.Bool.{Bool, true, false, ◌||◌}
use mathlib.Core.List.{List}
use mathlib.Core.Path.{◌≡◌, refl, sym, ◌∙◌, ap}
use native.Mathlib.Omega.{arith}
use borrow.Author.Tests.{eq-eqb, ne_eqb, lt-ltb, le-ltb, ltb-true, ltb-false, eqb-true, eqb-false}
use lib.Dec.{ltb, eqb}
use Rattle.octets.specs.Paper.{Paper}
use Rattle.octets.specs.Paper.Paper.{refuses}
use Rattle.octets.specs.Refusals.{not_there, index_too_short}
use Rattle.octets.proofs.Tests.{held, failed}
use Rattle.index.specs.Index.{is_short, where_there, built}

pub long-enough : (rows buckets heads links : ℕ) → 0 < buckets → buckets ≤ heads → rows ≤ links → is_short rows buckets heads links ≡ false
long-enough rows buckets heads links z h l =
    ap (λ (b : Bool). b || (ltb heads buckets || ltb links rows)) (ne_eqb _ _ (λ (e : buckets ≡ 0). omega arith)) ∙ ap (λ (b : Bool). b || ltb links rows) (le-ltb _ _ h) ∙ le-ltb _ _ l

module _ (has rows buckets heads links : ℕ) (answer : Paper) where
  pub fewer_rows : has < rows → where_there has rows buckets heads links answer ≡ not_there
  fewer_rows h = held _ _ (lt-ltb _ _ h)

  module _ (h : rows ≤ has) where
    asked : where_there has rows buckets heads links answer
        ≡ (elim (is_short rows buckets heads links) as (λ (b : Bool). Paper) [ true ↦ index_too_short (max 1 buckets) rows | false ↦ answer ])
    asked = failed _ _ (le-ltb _ _ h)

    pub all_there : 0 < buckets → buckets ≤ heads → rows ≤ links → where_there has rows buckets heads links answer ≡ answer
    all_there z g l = asked ∙ failed _ _ (long-enough rows buckets heads links z g l)

    short : is_short rows buckets heads links ≡ true → (needed : ℕ) → max 1 buckets ≡ needed → index_too_short needed rows ≡ where_there has rows buckets heads links answer
    short e needed m = sym (asked ∙ held _ _ e ∙ ap (λ (n : ℕ). index_too_short n rows) m)

    pub no_bucket : buckets ≡ 0 → index_too_short 1 rows ≡ where_there has rows buckets heads links answer
    no_bucket z = short (ap (λ (b : Bool). b || (ltb heads buckets || ltb links rows)) (eq-eqb _ _ z)) 1 (ap (max 1) z)

    module _ (z : buckets ≡ 0 → ⊥) where
      needed : max 1 buckets ≡ buckets
      needed = omega (arith, z)

      some : is_short rows buckets heads links ≡ (ltb heads buckets || ltb links rows)
      some = ap (λ (b : Bool). b || (ltb heads buckets || ltb links rows)) (ne_eqb _ _ z)

      pub few_heads : heads < buckets → index_too_short buckets rows ≡ where_there has rows buckets heads links answer
      few_heads g = short (some ∙ ap (λ (b : Bool). b || ltb links rows) (lt-ltb _ _ g)) buckets needed

      pub few-links : buckets ≤ heads → links < rows → index_too_short buckets rows ≡ where_there has rows buckets heads links answer
      few-links g l = short (some ∙ ap (λ (b : Bool). b || ltb links rows) (le-ltb _ _ g) ∙ lt-ltb _ _ l) buckets needed

-- what `built` says of the lengths
pub record Room (has rows buckets heads links : ℕ) : Type 0 where
  pub rows-there : rows ≤ has
  pub some_bucket : 0 < buckets
  pub heads_there : buckets ≤ heads
  pub links-there : rows ≤ links

module _ (has rows buckets heads links : ℕ) where
  pub room-there : built ≡ where_there has rows buckets heads links built → Room has rows buckets heads links
  room-there e = first (ltb has rows) refl
    where
      no : ◌≡◌ {A = ℕ} 0 1 → Room has rows buckets heads links
      no z = absurd (omega arith)

      fourth : rows ≤ has → (buckets ≡ 0 → ⊥) → buckets ≤ heads → (b : Bool) → ltb links rows ≡ b → Room has rows buckets heads links
      fourth h z g true q = no (cc (few-links has rows buckets heads links built h z g (ltb-true _ _ q)))
      fourth h z g false q = record { rows-there = h; some_bucket = omega (arith, z); heads_there = g; links-there = ltb-false _ _ q }

      third : rows ≤ has → (buckets ≡ 0 → ⊥) → (b : Bool) → ltb heads buckets ≡ b → Room has rows buckets heads links
      third h z true q = no (cc (few_heads has rows buckets heads links built h z (ltb-true _ _ q)))
      third h z false q = fourth h z (ltb-false _ _ q) (ltb links rows) refl

      second : rows ≤ has → (b : Bool) → eqb buckets 0 ≡ b → Room has rows buckets heads links
      second h true q = no (cc (no_bucket has rows buckets heads links built h (eqb-true _ _ q)))
      second h false q = third h (eqb-false _ _ q) (ltb heads buckets) refl

      first : (b : Bool) → ltb has rows ≡ b → Room has rows buckets heads links
      first true q = no (cc (fewer_rows has rows buckets heads links built (ltb-true _ _ q)))
      first false q = second (ltb-false _ _ q) (eqb buckets 0) refl

  -- a refusal is the same whatever would be answered
  pub refused-alike : (n : ℕ) (vs : List ℕ) (answer : Paper) → refuses n vs ≡ where_there has rows buckets heads links built → refuses n vs ≡ where_there has rows buckets heads links answer
  refused-alike n vs answer e = first (ltb has rows) refl
    where
      second : rows ≤ has → (b : Bool) → is_short rows buckets heads links ≡ b → refuses n vs ≡ where_there has rows buckets heads links answer
      second h true q = e ∙ (asked has rows buckets heads links built h ∙ held _ _ q) ∙ sym (asked has rows buckets heads links answer h ∙ held _ _ q)
      second h false q =
          let k : refuses n vs ≡ built = e ∙ asked has rows buckets heads links built h ∙ failed _ _ q in
          let z : ◌≡◌ {A = ℕ} 0 1 = cc in
          absurd (omega arith)

      first : (b : Bool) → ltb has rows ≡ b → refuses n vs ≡ where_there has rows buckets heads links answer
      first true q = e ∙ fewer_rows has rows buckets heads links built (ltb-true _ _ q) ∙ sym (fewer_rows has rows buckets heads links answer (ltb-true _ _ q))
      first false q = second (ltb-false _ _ q) (is_short rows buckets heads links) refl
