-- Told as 2, a fault is on paper what it was, unless it is a refusal that has the number 16 or 17 itself; and it is no 2, unless it is a refusal that has that number. No tree gives
-- such a one.
use Prim.Native.Nat.{ℕ, ◌<◌}
use mathlib.Core.List.{List, []}
use mathlib.Core.Path.{◌≡◌, refl, ◌∙◌, ap}
use native.Mathlib.Omega.{arith}
use borrow.Author.Tests.{ne_eqb}
use Rattle.octets.specs.declared.Refusal.{Refusal}
use Rattle.octets.specs.declared.Fault.{Fault}
use Rattle.octets.specs.declared.Fault.TheVariants.{Cut, Mark}
use Rattle.octets.specs.Former.{former_fault, former_told, as_two}
use Rattle.octets.specs.Paper.Paper.{refuses}
use Rattle.octets.specs.Reader.{Outcome}
use Rattle.octets.specs.Reader.Outcome.{read, fault}
use Rattle.octets.specs.Refusals.{number_of, paper_fault, told}
use Rattle.octets.proofs.Tests.{failed}

as_told : (n : ℕ) (vs : List ℕ) → n < 16 → as_two (refuses n vs) ≡ refuses n vs
as_told n vs h = failed _ _ (ne_eqb n 16 (λ e. absurd (omega arith))) ∙ failed _ _ (ne_eqb n 17 (λ e. absurd (omega arith)))

pub fault-as_two : (x : Fault) → ((r : Refusal) → x ≡ Fault.Refusal r → number_of r < 16) → as_two (paper_fault x) ≡ former_fault x
fault-as_two (Cut at) h = refl
fault-as_two (Mark at) h = refl
fault-as_two (Fault.Refusal r) h = as_told (number_of r) [] (h r refl)

pub told_as-two : {A : Type 0} (numbers : A → List ℕ) (o : Outcome A) → ((r : Refusal) → o ≡ fault (Fault.Refusal r) → number_of r < 16) → as_two (told numbers o) ≡ former_told numbers o
told_as-two numbers (read a next) h = refl
told_as-two {A} numbers (fault x) h =
    let stop : Fault → Outcome A = fault in
    fault-as_two x (λ r e. h r (ap stop e))

pub not_two : (x : Fault) → ((r : Refusal) → x ≡ Fault.Refusal r → number_of r ≡ 2 → ⊥) → (vs : List ℕ) → paper_fault x ≡ refuses 2 vs → ⊥
not_two (Cut at) h vs e = let z : ◌≡◌ {A = ℕ} 16 2 = cc in omega arith
not_two (Mark at) h vs e = let z : ◌≡◌ {A = ℕ} 17 2 = cc in omega arith
not_two (Fault.Refusal r) h vs e = h r refl (cc)

pub told_not_two : {A : Type 0} (numbers : A → List ℕ) (o : Outcome A) → ((r : Refusal) → o ≡ fault (Fault.Refusal r) → number_of r ≡ 2 → ⊥) → (vs : List ℕ) → told numbers o ≡ refuses 2 vs → ⊥
told_not_two numbers (read a next) h vs e = let z : ◌≡◌ {A = ℕ} 0 1 = cc in omega arith
told_not_two {A} numbers (fault x) h vs e =
    let stop : Fault → Outcome A = fault in
    not_two x (λ r q. h r (ap stop q)) vs e
