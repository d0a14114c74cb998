-- Laws of the same tree n times: none, one more, a stop; and what was found, told again as a list from the front.
use Prim.Native.Nat.{ℕ, zero, suc, ◌-◌, ◌≤◌, ◌<◌}
use mathlib.Core.List.{List, [], ◌∷◌}
use mathlib.Core.Path.{◌≡◌, refl, sym, ◌∙◌, ap}
use native.Mathlib.Omega.{arith}
use lib.ListN.{length}
use Rattle.octets.specs.declared.Fault.{Fault}
use Rattle.octets.specs.Helpers.{past, go_on, leading}
use Rattle.octets.specs.Reader.{Reader, Outcome, run, then, times}
use Rattle.octets.specs.Reader.Outcome.{read, fault}
use Rattle.octets.proofs.Reading.{run-then, onwards}

-- a tree that was read goes on with the next, and one that stopped stops the whole
module _ {A B : Type 0} (r : Reader A) (f : A → Reader B) (s : List ℕ) (at : ℕ) where
  pub goes_on : (a : A) (next : ℕ) → run r s at ≡ read a next → run (then r f) s at ≡ run (f a) s next
  goes_on a next h = run-then r f s at ∙ ap (λ (o : Outcome A). onwards o (λ b n. run (f b) s n)) h

  pub stops : (x : Fault) → run r s at ≡ fault x → run (then r f) s at ≡ fault x
  stops x h = run-then r f s at ∙ ap (λ (o : Outcome A). onwards o (λ b n. run (f b) s n)) h

module _ {A : Type 0} (r : Reader A) (s : List ℕ) where
  -- one element, and then those that are left
  abbrev pub joined : A → Outcome (List A) → Outcome (List A)
  joined a (read l next) = read (a ∷ l) next
  joined a (fault x) = fault x

  pub one_more : (n at : ℕ) (a : A) (next : ℕ) → run r s at ≡ read a next → run (times (suc n) r) s at ≡ joined a (run (times n r) s next)
  unfolding times run
  one_more n at a next h = goes_on r _ s at a next h ∙ run-then (times n r) _ s next ∙ by (run (times n r) s next)
    where
      by : (o : Outcome (List A)) → onwards o (λ l end. read (a ∷ l) end) ≡ joined a o
      by (read l end) = refl
      by (fault x) = refl

  pub none_yet : (at : ℕ) → run (times zero r) s at ≡ read [] at
  unfolding times run
  none_yet at = refl

  -- the place alone
  pub past-none : (at : ℕ) → read tt at ≡ past (run (times zero r) s at)
  unfolding times run
  past-none at = refl

  pub past_more : (n at : ℕ) (a : A) (next : ℕ) → run r s at ≡ read a next → past (run (times (suc n) r) s at) ≡ past (run (times n r) s next)
  past_more n at a next h = ap past (one_more n at a next h) ∙ by (run (times n r) s next)
    where
      by : (o : Outcome (List A)) → past (joined a o) ≡ past o
      by (read l end) = refl
      by (fault x) = refl

  pub times-stops : (n at : ℕ) (x : Fault) → run r s at ≡ fault x → run (times (suc n) r) s at ≡ fault x
  unfolding times
  times-stops n at x h = stops r _ s at x h

  -- the list that was found
  pub found-list : (n at : ℕ) (l : List A) (next : ℕ) → run (times n r) s at ≡ read l next → (leading n r s at ≡ l) × (length l ≡ n)
  unfolding leading
  found-list zero at l next h =
      let e : read [] at ≡ read l next = sym (none_yet at) ∙ h in
      let q : l ≡ [] = cc in
      (sym q, ap length q)
  found-list (suc n) at l next h = go (run r s at) refl (found-list n)
    where
      rest : (a : A) (end : ℕ) (o : Outcome (List A)) → run (times n r) s end ≡ o → joined a o ≡ read l next
          → ((m : List A) (stop : ℕ) → run (times n r) s end ≡ read m stop → (leading n r s end ≡ m) × (length m ≡ n)) → ((a ∷ leading n r s end) ≡ l) × (length l ≡ suc n)
      rest a end (read m stop) t e f =
          let w = f m stop t in
          let q : l ≡ a ∷ m = cc in
          (rw w.0 (sym q), rw q (ap suc w.1))
      rest a end (fault x) t e f = (cc, cc)

      go : (o : Outcome A) → run r s at ≡ o
          → ((end : ℕ) (m : List A) (stop : ℕ) → run (times n r) s end ≡ read m stop → (leading n r s end ≡ m) × (length m ≡ n)) → (go_on o (leading n r s) ≡ l) × (length l ≡ suc n)
      go (read a end) t f = rest a end (run (times n r) s end) refl (sym (one_more n at a end t) ∙ h) (f end)
      go (fault x) t f =
          let e : fault x ≡ read l next = sym (times-stops n at x t) ∙ h in
          (cc, cc)

  pub past-read : (n at next : ℕ) → past (run (times n r) s at) ≡ read tt next → (run (times n r) s at ≡ read (leading n r s at) next) × (length (leading n r s at) ≡ n)
  past-read n at next h = go (run (times n r) s at) refl h
    where
      go : (o : Outcome (List A)) → run (times n r) s at ≡ o → past o ≡ read tt next → (run (times n r) s at ≡ read (leading n r s at) next) × (length (leading n r s at) ≡ n)
      go (read l end) t e =
          let w = found-list n at l end t in
          let q : end ≡ next = cc in
          (t ∙ rw (w.0, q), rw w.0 w.1)
      go (fault x) t e = (cc, cc)

  pub past-fault : (n at : ℕ) (x : Fault) → past (run (times n r) s at) ≡ fault x → run (times n r) s at ≡ fault x
  past-fault n at x h = go (run (times n r) s at) h
    where
      go : (o : Outcome (List A)) → past o ≡ fault x → o ≡ fault x
      go (read l end) e = cc
      go (fault y) e = cc

  -- the list from the front, with its turns counted down
  pub leading_more : (left at : ℕ) → 0 < left → (a : A) (next : ℕ) → run r s at ≡ read a next → leading left r s at ≡ a ∷ leading (left - 1) r s next
  unfolding leading
  leading_more left at h a next e =
      let k : left ≡ suc (left - 1) = omega arith in
      ap (λ (n : ℕ). leading n r s at) k ∙ ap (λ (o : Outcome A). go_on o (leading (left - 1) r s)) e

  pub leading-stops : (left at : ℕ) (x : Fault) → run r s at ≡ fault x → leading left r s at ≡ []
  unfolding leading
  leading-stops zero at x e = refl
  leading-stops (suc n) at x e = ap (λ (o : Outcome A). go_on o (leading n r s)) e

  pub leading-none : (left at : ℕ) → left ≤ 0 → leading left r s at ≡ []
  unfolding leading
  leading-none left at h =
      let k : left ≡ 0 = omega arith in
      ap (λ (n : ℕ). leading n r s at) k
