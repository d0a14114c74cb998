-- Laws of building: one row more in front of its bucket's chain, and what is left at the end.
use Prim.Native.Nat.{ℕ, suc, ◌+◌, ◌-◌, ◌≤◌, ◌<◌}
use mathlib.Core.Bool.{Bool, true, false}
use mathlib.Core.List.{List}
use mathlib.Core.Path.{◌≡◌, refl, sym, ◌∙◌, ap}
use native.Mathlib.Omega.{arith}
use borrow.Author.Tests.{eq-eqb, ne_eqb, eqb-true, eqb-false}
use lib.Dec.{eqb}
use lib.ListN.{length, get_or, set, length-set}
use lib.Seq.{get_or-set_same, get_or-set_other}
use Rattle.octets.specs.Tables.{over}
use Rattle.index.specs.Index.{first_at, bucket_of, is_in, head_of, link_of, heads_of, links_of}
use Rattle.index.specs.Helpers.{Cleared, Chained}
use Rattle.index.proofs.Firsts.{first-here, first_on, numbers-over}

pub clears_more : (t t' : List ℕ) (i : ℕ) → i < length t → Cleared i t t' → Cleared (i + 1) t (set t' i 0)
clears_more t t' i h c =
    record {
      long = length-set t' i 0 ∙ c.long;
      cleared = λ j k. go j k (eqb j i) refl;
      kept = λ j k. get_or-set_other t' i j 0 0 (λ e. omega arith) ∙ c.kept j (omega arith);
    }
  where
    go : (j : ℕ) → j < i + 1 → (b : Bool) → eqb j i ≡ b → get_or (set t' i 0) j 0 ≡ 0
    go j k true e =
        let q = eqb-true j i e in
        ap (λ (m : ℕ). get_or (set t' i 0) m 0) q ∙ get_or-set_same t' i 0 0 (omega (arith, c.long))
    go j k false e =
        let q = eqb-false j i e in
        get_or-set_other t' i j 0 0 q ∙ c.cleared j (omega (arith, q))

module _ (t : List ℕ) (rows buckets : ℕ) (heads links : List ℕ) where
  -- no row yet
  pub chaining_starts : ((b : ℕ) → b < buckets → get_or heads b 0 ≡ 0) → Chained t rows buckets rows heads heads links links
  unfolding first_at
  chaining_starts z =
      let e : rows - rows ≡ 0 = omega arith in
      record {
        heads_long = refl;
        head = λ b h. z b h ∙ ap (λ (n : ℕ). first_at (is_in t buckets b) n rows) (sym e);
        heads_kept = λ b h. refl;
        links-long = refl;
        link = λ i h k. absurd (omega arith);
        links-kept = λ i h. refl;
      }

  -- a row more: the one before
  module _ (row next : ℕ) (q : next ≡ row + 1) (h : row < rows) (heads' links' : List ℕ) (c : Chained t rows buckets next heads heads' links links') (b : ℕ) (g : b ≡ bucket_of t buckets row)
      (k : b < length heads) (l : rows ≤ length links) where
    left : rows - row ≡ suc (rows - next)
    left = omega arith

    firsts : (j : ℕ) → first_at (is_in t buckets j) (rows - row) row ≡ first_at (is_in t buckets j) (suc (rows - next)) row
    firsts j = ap (λ (n : ℕ). first_at (is_in t buckets j) n row) left

    head_more : (j : ℕ) → j < buckets → (d : Bool) → eqb j b ≡ d → get_or (set heads' b (row + 1)) j 0 ≡ first_at (is_in t buckets j) (rows - row) row
    head_more j w true e =
        let z = eqb-true j b e in
        ap (λ (m : ℕ). get_or (set heads' b (row + 1)) m 0) z ∙ get_or-set_same heads' b (row + 1) 0 (omega (arith, c.heads_long))
        ∙ sym (firsts j ∙ first-here (is_in t buckets j) (rows - next) row (eq-eqb _ _ (sym (z ∙ g))))
    head_more j w false e =
        let z = eqb-false j b e in
        get_or-set_other heads' b j (row + 1) 0 z ∙ c.head j w
        ∙ sym (firsts j ∙ first_on (is_in t buckets j) (rows - next) row (ne_eqb _ _ (λ u. z (sym (g ∙ u)))) ∙ ap (λ (m : ℕ). first_at (is_in t buckets j) (rows - next) m) (sym q))

    link-more : b < buckets → (i : ℕ) → row ≤ i → i < rows → (d : Bool) → eqb i row ≡ d → get_or (set links' row (get_or heads' b 0)) i 0 ≡ link_of t rows buckets i
    link-more w i u v true e =
        let z = eqb-true i row e in
        ap (λ (m : ℕ). get_or (set links' row (get_or heads' b 0)) m 0) z ∙ get_or-set_same links' row (get_or heads' b 0) 0 (omega (arith, c.links-long)) ∙ c.head b w
        ∙ ap (λ (m : ℕ). first_at (is_in t buckets m) (rows - next) next) g ∙ ap (λ (m : ℕ). first_at (is_in t buckets (bucket_of t buckets row)) (rows - m) m) q
        ∙ ap (link_of t rows buckets) (sym z)
    link-more w i u v false e =
        let z = eqb-false i row e in
        get_or-set_other links' row i (get_or heads' b 0) 0 z ∙ c.link i (omega (arith, z)) v

    pub chaining_more : b < buckets → Chained t rows buckets row heads (set heads' b (row + 1)) links (set links' row (get_or heads' b 0))
    chaining_more w =
        record {
          heads_long = length-set heads' b (row + 1) ∙ c.heads_long;
          head = λ j u. head_more j u (eqb j b) refl;
          heads_kept = λ j u. get_or-set_other heads' b j (row + 1) 0 (λ e. omega arith) ∙ c.heads_kept j u;
          links-long = length-set links' row (get_or heads' b 0) ∙ c.links-long;
          link = λ i u v. link-more w i u v (eqb i row) refl;
          links-kept = λ i u. get_or-set_other links' row i (get_or heads' b 0) 0 (λ e. omega arith) ∙ c.links-kept i u;
        }

  -- all of them, over heads that were cleared
  module _ (cleared heads' links' : List ℕ) (z : Cleared buckets heads cleared) (c : Chained t rows buckets 0 cleared heads' links links') where
    none : rows - 0 ≡ rows
    none = omega arith

    pub heads_built : buckets ≤ length heads → heads' ≡ over (heads_of t rows buckets) heads
    unfolding heads_of
    heads_built h =
        numbers-over (head_of t rows buckets) buckets heads heads' (c.heads_long ∙ z.long) h
        (λ b k. c.head b k ∙ ap (λ (n : ℕ). first_at (is_in t buckets b) n 0) none) (λ b k. c.heads_kept b k ∙ z.kept b k)

    pub links-built : rows ≤ length links → links' ≡ over (links_of t rows buckets) links
    unfolding links_of
    links-built h = numbers-over (link_of t rows buckets) rows links links' c.links-long h (λ i k. c.link i (omega arith) k) c.links-kept
