-- Numbers of two bytes, one after another: how far n of them reach, or where the first is that is not there. None of them is looked at.
use Prim.Native.Nat.{ℕ, zero, suc, ◌+◌, ◌-◌, ◌*◌, ◌≤◌, ◌<◌}
use mathlib.Core.Bool.{Bool, true, false}
use mathlib.Core.List.{List}
use mathlib.Core.Path.{◌≡◌, refl, sym, ◌∙◌, ap}
use native.Mathlib.Nat.{mul-suc}
use native.Mathlib.Omega.{arith}
use borrow.Author.Tests.{leb-true, leb-false, le-leb, lt-leb}
use lib.Dec.{leb}
use lib.ListN.{length, take, drop}
use Rattle.std.specs.Prelude.{Result, Ok, Err}
use Rattle.std.specs.Result.{IsOk}
use Rattle.octets.specs.declared.Refusal.{Refusal}
use Rattle.octets.specs.Refusals.{paper_answer}
use Rattle.primitive.specs.Primitive.{value_of, unsigned}
use Rattle.primitive.proofs.Values.{value-is, value_lacks}
use Rattle.octets.proofs.Going.{number-within}
use Rattle.octets.specs.declared.Endianness.{Endianness}
use Rattle.octets.specs.declared.Fault.TheVariants.{Cut}
use Rattle.octets.specs.Helpers.{number_at, past}
use Rattle.octets.specs.Number.{number}
use Rattle.octets.specs.Reader.{Reader, Outcome, run, times, room}
use Rattle.octets.specs.Reader.Reader.{done}
use Rattle.octets.specs.Reader.Outcome.{read, fault}
use Rattle.octets.proofs.Onward.{number_moves}
use Rattle.octets.proofs.Reading.{onwards, number-there}
use Rattle.octets.proofs.Tests.{held, failed}
use Rattle.octets.proofs.Times.{past-none, past_more, times-stops}
use Rattle.dna.specs.Catalogue.{size, field}
use Rattle.dna.specs.Passes.{shorts_from, shorts_past}
use Rattle.dna.proofs.Counting.{field-stops, field-stops_later, field-read, field_moves, all_move}

abbrev Reached : Type 0
Reached = Outcome (Unit {0})

-- and what comes after them, from where they end
abbrev further : Reached → (ℕ → Reached) → Reached
further o f = onwards o (λ u next. f next)

module _ (s : List ℕ) where
  there : (n at : ℕ) → n ≤ shorts_from s at → shorts_past s n at ≡ read tt (at + 2 * n)
  there n at h = held _ _ (le-leb _ _ h)

  cut : (n at : ℕ) → shorts_from s at < n → shorts_past s n at ≡ fault (Cut (at + 2 * shorts_from s at))
  cut n at h = failed _ _ (lt-leb _ _ h)

  -- some, and then some more
  reach-on : (k m at : ℕ) → shorts_past s (k + m) at ≡ further (shorts_past s k at) (shorts_past s m)
  reach-on k m at = go (leb k (shorts_from s at)) refl
    where
      more : (b : Bool) → leb m (shorts_from s (at + 2 * k)) ≡ b → k ≤ shorts_from s at → shorts_past s (k + m) at ≡ shorts_past s m (at + 2 * k)
      more true t h =
          let u : m ≤ shorts_from s (at + 2 * k) = leb-true _ _ t in
          let n : k + m ≤ shorts_from s at = omega arith in
          let p : at + 2 * (k + m) ≡ at + 2 * k + 2 * m = omega arith in
          there (k + m) at n ∙ ap (λ (q : ℕ). read tt q) p ∙ sym (there m (at + 2 * k) u)
      more false t h =
          let u : shorts_from s (at + 2 * k) < m = leb-false _ _ t in
          let n : shorts_from s at < k + m = omega arith in
          let p : at + 2 * shorts_from s at ≡ at + 2 * k + 2 * shorts_from s (at + 2 * k) = omega arith in
          cut (k + m) at n ∙ ap (λ (q : ℕ). fault (Cut q)) p ∙ sym (cut m (at + 2 * k) u)

      go : (b : Bool) → leb k (shorts_from s at) ≡ b → shorts_past s (k + m) at ≡ further (shorts_past s k at) (shorts_past s m)
      go true t =
          let h : k ≤ shorts_from s at = leb-true _ _ t in
          more (leb m (shorts_from s (at + 2 * k))) refl h ∙ sym (ap (λ (o : Reached). further o (shorts_past s m)) (there k at h))
      go false t =
          let h : shorts_from s at < k = leb-false _ _ t in
          cut (k + m) at (omega arith) ∙ sym (ap (λ (o : Reached). further o (shorts_past s m)) (cut k at h))

  -- a tree that is k of them, n times
  module _ {A : Type 0} (r : Reader A) (k : ℕ) (each : (at : ℕ) → past (run r s at) ≡ shorts_past s k at) where
    times-reach : (n at : ℕ) → past (run (times n r) s at) ≡ shorts_past s (k * n) at
    times-reach zero at =
        let z : k * 0 ≡ 0 = omega arith in
        let p : at + 2 * 0 ≡ at = omega arith in
        sym (past-none r s at) ∙ sym (rw z (there 0 at (omega arith) ∙ ap (λ (q : ℕ). read tt q) p))
    times-reach (suc n) at = go (run r s at) refl (times-reach n)
      where
        split : shorts_past s (k * suc n) at ≡ further (shorts_past s k at) (shorts_past s (k * n))
        split =
            let q : k * suc n ≡ k + k * n = omega (arith, mul-suc k n) in
            ap (λ (j : ℕ). shorts_past s j at) q ∙ reach-on k (k * n) at

        go : (o : Outcome A) → run r s at ≡ o → ((from : ℕ) → past (run (times n r) s from) ≡ shorts_past s (k * n) from)
            → past (run (times (suc n) r) s at) ≡ shorts_past s (k * suc n) at
        go (read a next) t f = past_more r s n at a next t ∙ f next ∙ sym (split ∙ ap (λ (o : Reached). further o (shorts_past s (k * n))) (sym (each at) ∙ ap past t))
        go (fault x) t f = ap past (times-stops r s n at x t) ∙ sym (split ∙ ap (λ (o : Reached). further o (shorts_past s (k * n))) (sym (each at) ∙ ap past t))

  module _ (e : Endianness) where
    size-reach : (at : ℕ) → past (run (size e) s at) ≡ shorts_past s 1 at
    unfolding run
    size-reach at = go (room s at 2) refl
      where
        go : (b : Bool) → room s at 2 ≡ b → past (run (size e) s at) ≡ shorts_past s 1 at
        go true t =
            let h : at + 2 ≤ length s = leb-true _ _ t in
            rw (past, t) (sym (there 1 at (omega arith)))
        go false t =
            let h : length s < at + 2 = leb-false _ _ t in
            let z : shorts_from s at ≡ 0 = omega arith in
            let p : at + 2 * shorts_from s at ≡ at = omega arith in
            rw (past, t) (sym (cut 1 at (omega arith) ∙ ap (λ (q : ℕ). fault (Cut q)) p))

    field-reach : (at : ℕ) → past (run (field e) s at) ≡ shorts_past s 2 at
    field-reach at = one (run (number e 2 done) s at) refl
      where
        two : (t mid : ℕ) → run (number e 2 done) s at ≡ read t mid → (o : Outcome ℕ) → run (number e 2 done) s mid ≡ o → past (run (field e) s at) ≡ shorts_past s 1 mid
        two t mid k (read n last) g = ap past (sym (field-read e s at t mid (sym k) n last (sym g))) ∙ sym (ap past g) ∙ size-reach mid
        two t mid k (fault x) g = ap past (sym (field-stops_later e s at t mid (sym k) x (sym g))) ∙ sym (ap past g) ∙ size-reach mid

        one : (o : Outcome ℕ) → run (number e 2 done) s at ≡ o → past (run (field e) s at) ≡ shorts_past s 2 at
        one (read t mid) k =
            two t mid k (run (number e 2 done) s mid) refl ∙ sym (reach-on 1 1 at ∙ ap (λ (o : Reached). further o (shorts_past s 1)) (sym (size-reach at) ∙ ap past k))
        one (fault x) k = ap past (sym (field-stops e s at x (sym k))) ∙ sym (reach-on 1 1 at ∙ ap (λ (o : Reached). further o (shorts_past s 1)) (sym (size-reach at) ∙ ap past k))

    -- as `records_past` answers
    pub sizes-reach : (n at : ℕ) → shorts_past s (1 * n) at ≡ past (run (times n (size e)) s at)
    sizes-reach n at = sym (times-reach (size e) 1 size-reach n at)

    pub fields-reach : (n at : ℕ) → shorts_past s (2 * n) at ≡ past (run (times n (field e)) s at)
    fields-reach n at = sym (times-reach (field e) 2 field-reach n at)

-- what was read is there
fields_within : (s : List ℕ) (e : Endianness) (n from last : ℕ) → read tt last ≡ past (run (times n (field e)) s from) → from ≤ length s → last ≤ length s
fields_within s e n from last g h = go (leb (2 * n) (shorts_from s from)) refl (g ∙ times-reach s (field e) 2 (field-reach s e) n from)
  where
    go : (b : Bool) → leb (2 * n) (shorts_from s from) ≡ b → read tt last ≡ shorts_past s (2 * n) from → last ≤ length s
    go true t k =
        let u : 2 * n ≤ shorts_from s from = leb-true _ _ t in
        let q : ◌≡◌ {A = Reached} (read tt last) (read tt (from + 2 * (2 * n))) = k ∙ held _ _ t in
        let z : last ≡ from + 2 * (2 * n) = cc in
        omega arith
    go false t k =
        let q : ◌≡◌ {A = Reached} (read tt last) (fault (Cut (from + 2 * shorts_from s from))) = k ∙ failed _ _ t in
        let z : ◌≡◌ {A = ℕ} 0 1 = cc in
        absurd (omega arith)

-- a struct's fields: where they end, and that they are there
module _ (e : Endianness) (s : List ℕ) (at t next n from last : ℕ) (h : read t next ≡ run (number e 2 done) s at) (k : read n from ≡ run (number e 2 done) s next)
    (g : read tt last ≡ past (run (times n (field e)) s from)) where
  pub struct-ends : last ≡ at + 4 + 4 * n
  struct-ends =
      omega
      (arith, number_moves e s 2 at t next (sym h), number_moves e s 2 next n from (sym k), all_move (field e) s 4 (field_moves e s) n from last g)

  pub struct-within : last ≤ length s
  struct-within = fields_within s e n from last g (number-within e s 2 next n from (sym k))

-- a field record that is there
pub field_there : (e : Endianness) (s : List ℕ) (at : ℕ) → at + 4 ≤ length s → (t n : ℕ) → t ≡ number_at e 2 s at → n ≡ number_at e 2 s (at + 2) → run (field e) s at ≡ read (t, n) (at + 4)
field_there e s at h t n p q =
    rw (p, q)
    (sym (field-read e s at _ (at + 2) (number-there e 2 s at (at + 2) refl (omega arith)) _ (at + 4) (number-there e 2 s (at + 2) (at + 4) (omega arith) h)))

-- a number of two bytes that is there: it is read, and it is the one that they spell
module _ (e : Endianness) (s : List ℕ) (at : ℕ) (h : at + 2 ≤ length s) where
  pub short-there : (r : Result ℕ Refusal) → paper_answer unsigned r ≡ value_of 2 unsigned e (take (at + 2 - at) (drop at s)) → IsOk r
  short-there (Ok n) p = refl
  short-there (Err x) p = value_lacks 2 e s at h _ p

  pub short-is : (r : Result ℕ Refusal) → paper_answer unsigned r ≡ value_of 2 unsigned e (take (at + 2 - at) (drop at s)) → (n : ℕ) → r ≡ Ok n → n ≡ number_at e 2 s at
  short-is r p n q = value-is 2 e s at h n (ap (paper_answer unsigned) (sym q) ∙ p)
