-- Where a byte stands first, the group at the front of some bytes, all groups from a place on, and asterisks.
use Prim.Native.Char.{code}
use Prim.Native.Nat.{ℕ, zero, suc, ◌+◌, ◌-◌, ◌≤◌, ◌<◌}
use native.Mathlib.Nat.{le_refl, add-zero}
use mathlib.Core.Bool.{Bool, true, false, cond, ◌&&◌}
use mathlib.Core.List.{List, [], ◌∷◌, ◌++◌}
use mathlib.Core.Option.{Option as Maybe, none, some}
use mathlib.Core.Path.{◌≡◌, refl, sym, ◌∙◌, ap}
use native.Mathlib.Numerals.{add-one, one-add}
use native.Mathlib.Omega.{arith}
use lib.Dec.{eqb}
use borrow.Author.Tests.{lt-ltb, le-ltb, ltb-true}
use lib.ListN.{length, get_or, take, drop, set, length-drop, length-set}
use lib.Seq.{drop-cons, drop-drop, length-take-le}
use Rattle.std.specs.Prelude.{Option, Some, None, Result, Ok, Err}
use Rattle.std.specs.List.{prefix_len}
use Rattle.std.proofs.lemmas.List.{set-get_or}
use Rattle.std.proofs.lemmas.Option.{some_pair_parts}
use Rattle.octets.specs.Ascii.{ascii}
use Rattle.octets.specs.declared.Refusal.{Refusal}
use Rattle.octets.specs.declared.Refusal.TheVariants.{InvalidArraySize}
use Rattle.octets.specs.Reader.{before, stands, ended_by}
use Rattle.octets.proofs.Filling.{partly, partly_more, partly-all}
use Rattle.octets.proofs.Marks.{before-le}
use Rattle.octets.proofs.Reading.{to_the_end}
use Rattle.octets.proofs.Tests.{held, failed}
use Rattle.field.specs.Declarators.{first, stars, complete, content, after_group, decimal, taken, groups, spanned, numbers, join}
use Rattle.field.specs.Helpers.{decimal_of, group_by, group_of, times_of, finish_by, finish, leading, leading_by}

module _ (c : ℕ) (s : List ℕ) (at : ℕ) where
  pub first-le : at ≤ length s → first c s at ≤ length s
  first-le h = omega (arith, before-le c (drop at s), length-drop at s)

  pub first_on : (n : ℕ) → n ≡ before c (take (length s - at) (drop at s)) → at + n ≡ first c s at
  first_on n e = rw (e, to_the_end s at)

-- a decimal that was read, and one that was not
is_number : (o : Maybe ℕ) (d : ℕ) → Ok d ≡ decimal_of o → o ≡ some d
is_number none d h = cc
is_number (some n) d h = cc

is_none : (o : Maybe ℕ) (r : Refusal) → Err r ≡ decimal_of o → (o ≡ none) × (r ≡ InvalidArraySize)
is_none none r h = (refl, cc)
is_none (some n) r h = (cc, cc)

module _ (l : List ℕ) where
  pub no_bracket : stands l 0 (ascii "[") ≡ false → Ok None ≡ group_of l
  unfolding group_of
  no_bracket t =
      let e : complete l ≡ false = rw t in
      sym (failed _ _ e)

  module _ (t : stands l 0 (ascii "[") ≡ true) where
    pub no_end : length l ≤ first (code "]") l 1 → Ok None ≡ group_of l
    unfolding group_of
    no_end h =
        let e : complete l ≡ false = rw (t, le-ltb _ _ h) in
        sym (failed _ _ e)

    module _ (h : first (code "]") l 1 < length l) where
      whole : group_by (first (code "]") l 1 + 1) (decimal (content l)) ≡ group_of l
      unfolding group_of
      whole =
          let e : complete l ≡ true = rw (t, lt-ltb _ _ h) in
          sym (held _ _ e)

      pub is_group : (d end : ℕ) → end ≡ first (code "]") l 1 → Ok d ≡ decimal_of (decimal (take (end - 1) (drop 1 l))) → Ok (Some (d, end + 1)) ≡ group_of l
      is_group d end e n = rw e (ap (group_by (first (code "]") l 1 + 1)) (sym (is_number (decimal (content l)) d (rw e at n))) ∙ whole)

      pub is_bad : (r : Refusal) (end : ℕ) → end ≡ first (code "]") l 1 → Err r ≡ decimal_of (decimal (take (end - 1) (drop 1 l))) → Err r ≡ group_of l
      is_bad r end e n =
          let w = is_none (decimal (content l)) r (rw e at n) in
          rw w.1 (ap (group_by (first (code "]") l 1 + 1)) (sym w.0) ∙ whole)

-- All groups: any number of turns that is enough takes the same, so one group more is one turn more.
none-taken : (n : ℕ) (l : List ℕ) → length l ≤ 0 → taken n l ≡ []
unfolding taken
none-taken zero l h = refl
none-taken (suc n) [] h = refl
none-taken (suc n) (x ∷ xs) h = absurd (omega arith)

one-turn : (m n : ℕ) (l : List ℕ) → taken m (after_group l) ≡ taken n (after_group l) → taken (suc m) l ≡ taken (suc n) l
unfolding taken
one-turn m n l e = ap (λ (gs : List (List ℕ)). elim (complete l) as (λ (c : Bool). List (List ℕ)) [ true ↦ content l ∷ gs | false ↦ [] ]) e

same_taken : (m n : ℕ) (l : List ℕ) → length l ≤ m → length l ≤ n → taken m l ≡ taken n l
same_taken zero n l h k = none-taken zero l h ∙ sym (none-taken n l h)
same_taken (suc m) zero l h k = none-taken (suc m) l k ∙ sym (none-taken zero l k)
same_taken (suc m) (suc n) l h k = one-turn m n l (same_taken m n (after_group l) (omega (arith, shorter)) (omega (arith, shorter)))
  where
    shorter : length (after_group l) ≤ length l - 1
    shorter = omega (arith, length-drop (first (code "]") l 1 + 1) l)

no_group : (l : List ℕ) → complete l ≡ false → groups l ≡ []
unfolding groups taken
no_group [] t = refl
no_group (x ∷ xs) t = failed _ _ t

one_group : (l : List ℕ) → complete l ≡ true → groups l ≡ content l ∷ groups (after_group l)
unfolding groups taken
one_group [] t = cc
one_group (x ∷ xs) t =
    let shorter : length (after_group (x ∷ xs)) ≤ length xs = omega (arith, length-drop (first (code "]") (x ∷ xs) 1 + 1) (x ∷ xs)) in
    held _ _ t ∙ ap (λ (gs : List (List ℕ)). content (x ∷ xs) ∷ gs) (same_taken (length xs) (length (after_group (x ∷ xs))) (after_group (x ∷ xs)) shorter (le_refl _))

-- what the group at the front tells of the bytes
group_none : (n : ℕ) (o : Maybe ℕ) (r : Refusal) → group_by n o ≡ Err r → (o ≡ none) × (r ≡ InvalidArraySize)
group_none n none r h = (refl, cc)
group_none n (some d) r h = (cc, cc)

group_some : (n : ℕ) (o : Maybe ℕ) (d span : ℕ) → group_by n o ≡ Ok (Some (d, span)) → (o ≡ some d) × (n ≡ span)
group_some n none d span h = (cc, cc)
group_some n (some e) d span h =
    let p = some_pair_parts e d n span (cc) in
    (ap some p.0, p.1)

group_there : (n : ℕ) (o : Maybe ℕ) → group_by n o ≡ Ok None → ⊥
group_there n none h = cc
group_there n (some d) h = cc

module _ (l : List ℕ) where
  absent_means : group_of l ≡ Ok None → complete l ≡ false
  unfolding group_of
  absent_means h = go (complete l) refl
    where
      go : (b : Bool) → complete l ≡ b → b ≡ false
      go true t = absurd (group_there _ (decimal (content l)) (sym (held _ _ t) ∙ h))
      go false t = refl

  there : (g : Result (Option (ℕ × ℕ)) Refusal) → (g ≡ Ok None → ⊥) → group_of l ≡ g → (complete l ≡ true) × (group_by (first (code "]") l 1 + 1) (decimal (content l)) ≡ g)
  unfolding group_of
  there g a h = go (complete l) refl
    where
      go : (b : Bool) → complete l ≡ b → (complete l ≡ true) × (group_by (first (code "]") l 1 + 1) (decimal (content l)) ≡ g)
      go true t = (t, sym (held _ _ t) ∙ h)
      go false t = absurd (a (sym h ∙ failed _ _ t))

  bad_means : (r : Refusal) → group_of l ≡ Err r → (complete l ≡ true) × (decimal (content l) ≡ none) × (r ≡ InvalidArraySize)
  bad_means r h =
      let w = there (Err r) (λ e. cc) h in
      let v = group_none _ _ r w.1 in
      (w.0, v.0, v.1)

  is_means : (d span : ℕ) → group_of l ≡ Ok (Some (d, span)) → (complete l ≡ true) × (decimal (content l) ≡ some d) × (first (code "]") l 1 + 1 ≡ span)
  is_means d span h =
      let w = there (Ok (Some (d, span))) (λ e. cc) h in
      let v = group_some _ _ d span w.1 in
      (w.0, v.0, v.1)

  -- a complete group lies within the bytes, and takes two bytes more than its content
  closes : complete l ≡ true → first (code "]") l 1 < length l
  closes t = go (stands l 0 (ascii "[")) t
    where
      go : (b : Bool) → (b && ended_by (code "]") l 1) ≡ true → first (code "]") l 1 < length l
      go true e = ltb-true _ _ e
      go false e = let z : ◌≡◌ {A = ℕ} 0 1 = cc in omega arith

  content-length : complete l ≡ true → length (content l) + 2 ≡ first (code "]") l 1 + 1
  content-length t =
      let h : first (code "]") l 1 < length l = closes t in
      let e : length (content l) ≡ first (code "]") l 1 - 1 = length-take-le _ _ (omega (arith, length-drop 1 l)) in
      omega arith

  span_within : (d span : ℕ) → group_of l ≡ Ok (Some (d, span)) → (2 ≤ span) × (span ≤ length l)
  span_within d span h =
      let w = is_means d span h in
      let k : first (code "]") l 1 < length l = closes w.0 in
      (omega (arith, w.2), omega (arith, w.2))

-- one turn of the loop over the groups
module _ (n k : ℕ) (p : Option ℕ) (l : List ℕ) where
  pub finish_absent : group_of l ≡ Ok None → Ok (record { count = n; product = p; span = k }) ≡ finish n p k l
  unfolding finish numbers spanned
  finish_absent h = rw (no_group l (absent_means l h), add-zero n, add-zero k)

  pub finish_bad : (r : Refusal) → group_of l ≡ Err r → Err r ≡ finish n p k l
  unfolding finish numbers
  finish_bad r h =
      let w = bad_means l r h in
      rw (one_group l w.0, w.1, w.2)

  pub finish-is : (d span : ℕ) → group_of l ≡ Ok (Some (d, span)) → finish n p k l ≡ finish (n + 1) (times_of p d) (k + span) (drop span l)
  unfolding finish numbers spanned
  finish-is d span h =
      let w = is_means l d span h in
      let e : k + (length (content l) + 2 + spanned (groups (drop span l))) ≡ k + span + spanned (groups (drop span l)) = omega (arith, content-length l w.0, w.2) in
      rw (one_group l w.0, w.1, w.2, e) (by (numbers (groups (drop span l))))
    where
      by : (o : Maybe (List ℕ)) → finish_by n p (k + span + spanned (groups (drop span l))) (join (some d) o)
          ≡ finish_by (n + 1) (times_of p d) (k + span + spanned (groups (drop span l))) o
      by none = refl
      by (some ds) =
          let a : n + suc (length ds) ≡ n + 1 + length ds = omega arith in
          rw a

-- the group at a place of the bytes, from what was asked of the part that starts there
pub group_at : (l : List ℕ) (at : ℕ) (g : Result (Option (ℕ × ℕ)) Refusal) → g ≡ group_of (take (length l - at) (drop at l)) → group_of (drop at l) ≡ g
group_at l at g e = sym (rw (to_the_end l at) at e)

pub within : (l : List ℕ) (at d span : ℕ) → at ≤ length l → group_of (drop at l) ≡ Ok (Some (d, span)) → (2 ≤ span) × (at + span ≤ length l)
within l at d span i g =
    let w = span_within (drop at l) d span g in
    (w.0, omega (arith, w.1, length-drop at l))

-- one turn of the loop that writes the numbers
module _ (l : List ℕ) where
  pub leading-is : (d span : ℕ) → group_of l ≡ Ok (Some (d, span)) → leading (groups l) ≡ d ∷ leading (groups (drop span l))
  unfolding leading
  leading-is d span h =
      let w = is_means l d span h in
      rw (one_group l w.0, w.1, w.2)

  leading_bad : (r : Refusal) → group_of l ≡ Err r → leading (groups l) ≡ []
  unfolding leading
  leading_bad r h =
      let w = bad_means l r h in
      rw (one_group l w.0, w.1)

  leading_absent : group_of l ≡ Ok None → leading (groups l) ≡ []
  unfolding leading
  leading_absent h = rw (no_group l (absent_means l h))

-- where all contents are numbers the leading ones are all
pub leading-all : (gs : List (List ℕ)) (ds : List ℕ) → numbers gs ≡ some ds → leading gs ≡ ds
unfolding leading numbers
leading-all [] ds h = cc
leading-all (c ∷ cs) ds h = go (decimal c) (numbers cs) refl h (leading-all cs)
  where
    go : (o : Maybe ℕ) (q : Maybe (List ℕ)) → numbers cs ≡ q → join o q ≡ some ds → ((es : List ℕ) → numbers cs ≡ some es → leading cs ≡ es)
        → leading_by o (leading cs) ≡ ds
    go none q t h' f = cc
    go (some d) none t h' f = cc
    go (some d) (some es) t h' f =
        let e : leading cs ≡ es = f es t in
        cc

-- what is left of the numbers from a place on
module _ (all rest : List ℕ) (i d : ℕ) (e : drop i all ≡ d ∷ rest) where
  pub left_lt : i < length all
  left_lt = omega (arith, ap length e, length-drop i all)

  pub left_here : get_or all i 0 ≡ d
  left_here =
      let q : get_or all i 0 ∷ drop (suc i) all ≡ d ∷ rest = sym (drop-cons all i 0 left_lt) ∙ e in
      cc

  pub left-on : drop (i + 1) all ≡ rest
  left-on =
      let q : get_or all i 0 ∷ drop (suc i) all ≡ d ∷ rest = sym (drop-cons all i 0 left_lt) ∙ e in
      rw add-one (cc)

-- The loop that writes the numbers: what holds at each turn, that a turn keeps it, and what it comes to.
pub record Filling (l t₀ t : List ℕ) (i at : ℕ) : Type 0 where
  pub within : at ≤ length l
  pub long : length t ≡ length t₀
  pub some_of : i ≤ length (leading (groups l))
  pub left : drop i (leading (groups l)) ≡ leading (groups (drop at l))
  pub so_far : t ≡ partly (leading (groups l)) t₀ i

module _ (l t₀ t : List ℕ) (i at : ℕ) (f : Filling l t₀ t i at) where
  module _ (d span : ℕ) (g : group_of (drop at l) ≡ Ok (Some (d, span))) where
    more : drop i (leading (groups l)) ≡ d ∷ leading (groups (drop span (drop at l)))
    more = f.left ∙ leading-is (drop at l) d span g

    pub next_span : (2 ≤ span) × (at + span ≤ length l)
    next_span = within l at d span f.within g

    is-left : i < length (leading (groups l))
    is-left = left_lt (leading (groups l)) (leading (groups (drop span (drop at l)))) i d more

    pub next_place : length (leading (groups l)) ≤ length t₀ → i < length t₀
    next_place h = omega (arith, is-left)

    pub filling_goes_on : length (leading (groups l)) ≤ length t₀ → Filling l t₀ (set t i d) (i + 1) (at + span)
    filling_goes_on h =
        let a = leading (groups l) in
        record {
          within = next_span.1;
          long = simp length-set f.long;
          some_of = omega (arith, is-left);
          left = left-on a _ i d more ∙ rw drop-drop;
          so_far = ap (λ (u : List ℕ). set u i d) f.so_far ∙ ap (set (partly a t₀ i) i) (sym (left_here a _ i d more)) ∙ partly_more a t₀ i is-left (next_place h);
        }

  filling_ends : leading (groups (drop at l)) ≡ [] → t ≡ leading (groups l) ++ drop (length (leading (groups l))) t₀
  filling_ends e =
      let z : drop i (leading (groups l)) ≡ [] = f.left ∙ e in
      let n : length (leading (groups l)) ≡ i = omega (arith, ap length z, length-drop i (leading (groups l)), f.some_of) in
      f.so_far ∙ partly-all (leading (groups l)) t₀ i n

  -- the entry that was looked at stays what it was
  pub ends-absent : group_of (drop at l) ≡ Ok None → set t i (get_or t i 0) ≡ leading (groups l) ++ drop (length (leading (groups l))) t₀
  ends-absent h = set-get_or t i 0 ∙ filling_ends (leading_absent (drop at l) h)

  pub ends_bad : (r : Refusal) → group_of (drop at l) ≡ Err r → set t i (get_or t i 0) ≡ leading (groups l) ++ drop (length (leading (groups l))) t₀
  ends_bad r h = set-get_or t i 0 ∙ filling_ends (leading_bad (drop at l) r h)

-- Asterisks, as an iterator counts them.
pub stars-counted : (l : List ℕ) → prefix_len (λ b. eqb b 42) l ≡ stars l
stars-counted [] = refl
stars-counted (b ∷ bs) = go (eqb b 42) (stars-counted bs)
  where
    go : (t : Bool) → prefix_len (λ x. eqb x 42) bs ≡ stars bs
        → cond t (1 + prefix_len (λ x. eqb x 42) bs) 0 ≡ (elim t as (λ (x : Bool). ℕ) [ true ↦ suc (stars bs) | false ↦ 0 ])
    go true h = rw one-add (ap suc h)
    go false h = refl

pub stars-le : (l : List ℕ) → stars l ≤ length l
stars-le [] = omega arith
stars-le (b ∷ bs) = go (eqb b 42) (stars-le bs)
  where
    go : (t : Bool) → stars bs ≤ length bs → (elim t as (λ (x : Bool). ℕ) [ true ↦ suc (stars bs) | false ↦ 0 ]) ≤ suc (length bs)
    go true h = omega arith
    go false h = omega arith

-- the groups lie within the bytes
taken-within : (n : ℕ) (l : List ℕ) → spanned (taken n l) ≤ length l
unfolding taken spanned
taken-within zero l = omega arith
taken-within (suc n) l = go (complete l) refl (taken-within n (after_group l))
  where
    go : (b : Bool) → complete l ≡ b → spanned (taken n (after_group l)) ≤ length (after_group l)
        → spanned (elim b as (λ (c : Bool). List (List ℕ)) [ true ↦ content l ∷ taken n (after_group l) | false ↦ [] ]) ≤ length l
    go true t h = omega (arith, content-length l t, closes l t, length-drop (first (code "]") l 1 + 1) l)
    go false t h = omega arith

pub groups-within : (l : List ℕ) → spanned (groups l) ≤ length l
unfolding groups
groups-within l = taken-within (length l) l
