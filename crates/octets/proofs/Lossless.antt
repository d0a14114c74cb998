-- Papers and outcomes lose nothing: two faults, two finds of a tree and two answers of the cursor that are told alike are the same.
use Prim.Native.Nat.{ℕ, ◌<◌}
use mathlib.Core.Bool.{Bool, true, false, Bool-set}
use mathlib.Core.List.{List, [], ◌∷◌, ◌++◌}
use mathlib.Core.Path.{◌≡◌, refl, sym, ◌∙◌, ap}
use lib.Dec.{eqb}
use Rattle.std.specs.Prelude.{Option, Some, None, Result, Ok, Err}
use native.Mathlib.Omega.{arith}
use borrow.Author.Tests.{eqb-true}
use Rattle.octets.specs.declared.Unlisted.{Unlisted}
use Rattle.octets.specs.declared.Refusal.{Refusal}
use Rattle.octets.specs.declared.Refusal.TheVariants.{CompressedFileNotSupported, InvalidMemoryAddress, UnsupportedCountOnPrincipalBlock, UnknownBlockCode, NoDnaBlockFound, InvalidArraySize, ProductTooLarge, ValueSliceTooShort, NotThere, NameNotFullyRead, Other}
use Rattle.octets.specs.declared.Fault.{Fault}
use Rattle.octets.specs.declared.Fault.TheVariants.{Cut, Mark}
use Rattle.octets.specs.declared.cursor.Cursor.{Cursor}
use Rattle.octets.specs.Cursor.{found, moved, begun, paper_found, paper_moved, there_as, paper_begun}
use Rattle.octets.specs.Paper.{Paper}
use Rattle.octets.specs.Paper.Paper.{refuses}
use Rattle.octets.specs.Reader.{Outcome}
use Rattle.octets.specs.Reader.Outcome.{read, fault}
use Rattle.octets.specs.Listed.{listed}
use Rattle.octets.specs.Refusals.{number_of, paper_answer, paper_fault, told}

-- a place is its number
pub at_one : (c d : Cursor) → c.at ≡ d.at → c ≡ d
at_one c d e = ap (λ (n : ℕ). record { at = n }) e

pub whole-found : {A : Type 0} (a b : Result (A × Cursor) Fault) → found a ≡ found b → a ≡ b
whole-found (Ok (x, y)) (Ok (x', y')) h = cc (at_one y y' (cc))
whole-found (Ok (x, y)) (Err f) h = cc
whole-found (Err f) (Ok (x, y)) h = cc
whole-found (Err f) (Err g) h = cc

pub whole-moved : (a b : Result Cursor Fault) → moved a ≡ moved b → a ≡ b
whole-moved (Ok x) (Ok y) h = cc (at_one x y (cc))
whole-moved (Ok x) (Err f) h = cc
whole-moved (Err f) (Ok x) h = cc
whole-moved (Err f) (Err g) h = cc

pub whole-begun : (here : Cursor) (a b : Option Cursor) → begun here a ≡ begun here b → a ≡ b
whole-begun here (Some x) (Some y) h = cc (at_one x y (cc))
whole-begun here (Some x) None h = cc
whole-begun here None (Some y) h = cc
whole-begun here None None h = refl

-- A refusal is its number: it is the one that the number leads back to.
by_name : ℕ → Refusal
by_name n =
    elim (eqb n 1) [
      | true ↦ CompressedFileNotSupported
      | false ↦ elim (eqb n 3) [
        | true ↦ InvalidMemoryAddress
        | false ↦ elim (eqb n 4) [
          | true ↦ UnsupportedCountOnPrincipalBlock
          | false ↦ elim (eqb n 5) [
            | true ↦ UnknownBlockCode
            | false ↦ elim (eqb n 6) [
              | true ↦ NoDnaBlockFound
              | false ↦ elim (eqb n 9) [
                | true ↦ InvalidArraySize
                | false ↦ elim (eqb n 10) [
                  | true ↦ ProductTooLarge
                  | false ↦ elim (eqb n 12) [
                    | true ↦ ValueSliceTooShort
                    | false ↦ elim (eqb n 13) [ true ↦ NotThere | false ↦ NameNotFullyRead ]
                  ]
                ]
              ]
            ]
          ]
        ]
      ]
    ]

by-listed : (n : ℕ) (b : Bool) → listed n ≡ b → Refusal
by-listed n true h = by_name n
by-listed n false h = Other (record { number = n; unlisted = h })

pub by_number : ℕ → Refusal
by_number n = by-listed n (listed n) refl

back_other : (u : Unlisted) (b : Bool) (h : listed u.number ≡ b) → by-listed u.number b h ≡ Other u
unfolding by-listed
back_other u true h =
    let other : listed u.number ≡ false = u.unlisted in
    cc
back_other u false h = ap (λ (k : listed u.number ≡ false). Other (record { number = u.number; unlisted = k })) (Bool-set (listed u.number) false h u.unlisted)

back : (r : Refusal) → by_number (number_of r) ≡ r
unfolding by_number by-listed by_name
back CompressedFileNotSupported = refl
back InvalidMemoryAddress = refl
back UnsupportedCountOnPrincipalBlock = refl
back UnknownBlockCode = refl
back NoDnaBlockFound = refl
back InvalidArraySize = refl
back ProductTooLarge = refl
back ValueSliceTooShort = refl
back NotThere = refl
back NameNotFullyRead = refl
back (Other u) = back_other u (listed u.number) refl

pub one_refusal : (r q : Refusal) → number_of r ≡ number_of q → r ≡ q
one_refusal r q e = sym (back r) ∙ ap by_number e ∙ back q

-- And each number is one of a refusal, so what holds of every refusal holds of every number.
chosen : (n k : ℕ) (r q : Refusal) → number_of r ≡ k → (eqb n k ≡ false → number_of q ≡ n) → number_of (elim (eqb n k) [ true ↦ r | false ↦ q ]) ≡ n
chosen n k r q e f = go (eqb n k) refl
  where
    go : (b : Bool) → eqb n k ≡ b → number_of (elim b [ true ↦ r | false ↦ q ]) ≡ n
    go true t = e ∙ sym (eqb-true n k t)
    go false t = f t

named : (n : ℕ) → listed n ≡ true → number_of (by_name n) ≡ n
unfolding by_name
named n h =
    chosen n 1 _ _ refl (λ a. chosen n 3 _ _ refl (λ b. chosen n 4 _ _ refl (λ c. chosen n 5 _ _ refl (λ d. chosen n 6 _ _ refl (λ e. chosen n 9 _ _ refl (λ f.
    chosen n 10 _ _ refl (λ g. chosen n 12 _ _ refl (λ i. chosen n 13 _ _ refl (λ j. sym (eqb-true n 15 (rw (a, b, c, d, e, f, g, i, j) at h)))))))))))

pub every_number : (n : ℕ) → number_of (by_number n) ≡ n
unfolding by_number by-listed
every_number n = go (listed n) refl
  where
    go : (b : Bool) (h : listed n ≡ b) → number_of (by-listed n b h) ≡ n
    go true h = named n h
    go false h = refl

-- so is an answer with it, where the values' papers lose nothing and are no refusals
pub whole-answer : {A : Type 0} (paper : A → Paper) → ((a b : A) → paper a ≡ paper b → a ≡ b) → ((a : A) (n : ℕ) → paper a ≡ refuses n [] → ⊥)
    → (x y : Result A Refusal) → paper_answer paper x ≡ paper_answer paper y → x ≡ y
whole-answer paper one taken (Ok a) (Ok b) e = ap Ok (one a b e)
whole-answer paper one taken (Ok a) (Err q) e = absurd (taken a (number_of q) e)
whole-answer paper one taken (Err r) (Ok b) e = absurd (taken b (number_of r) (sym e))
whole-answer paper one taken (Err r) (Err q) e = ap Err (one_refusal r q (cc))

-- a fault is its paper
pub whole-fault : (x y : Fault) → paper_fault x ≡ paper_fault y → x ≡ y
whole-fault (Cut m) (Cut n) e = cc
whole-fault (Cut m) (Mark n) e =
    let z : ◌≡◌ {A = ℕ} 16 17 = cc in
    absurd (omega arith)
whole-fault (Cut m) (Fault.Refusal n) e = cc
whole-fault (Mark m) (Cut n) e =
    let z : ◌≡◌ {A = ℕ} 17 16 = cc in
    absurd (omega arith)
whole-fault (Mark m) (Mark n) e = cc
whole-fault (Mark m) (Fault.Refusal n) e = cc
whole-fault (Fault.Refusal m) (Cut n) e = cc
whole-fault (Fault.Refusal m) (Mark n) e = cc
whole-fault (Fault.Refusal m) (Fault.Refusal n) e = ap Fault.Refusal (one_refusal m n (cc))

-- a refusal below 16 that carries something is no fault
pub no-fault : (number m : ℕ) (ns : List ℕ) → number < 16 → (x : Fault) → refuses number (m ∷ ns) ≡ paper_fault x → ⊥
no-fault number m ns l (Cut at) e = let z : number ≡ 16 = cc in omega arith
no-fault number m ns l (Mark at) e = let z : number ≡ 17 = cc in omega arith
no-fault number m ns l (Fault.Refusal n) e = let z : ◌≡◌ {A = ℕ} 0 1 = cc in omega arith

-- a list and its last number, told as one list
last_one : (xs ys : List ℕ) (x y : ℕ) → (xs ++ (x ∷ [])) ≡ (ys ++ (y ∷ [])) → (xs ≡ ys) × (x ≡ y)
last_one [] [] x y e = (refl, cc)
last_one [] (b ∷ []) x y e = (cc, cc)
last_one [] (b ∷ c ∷ cs) x y e = (cc, cc)
last_one (a ∷ []) [] x y e = (cc, cc)
last_one (a ∷ c ∷ cs) [] x y e = (cc, cc)
last_one (a ∷ cs) (b ∷ bs) x y e =
    let r = last_one cs bs x y (cc) in
    (cc r.0, r.1)

-- so is what a tree found, where its value is its numbers
pub whole-told : {A : Type 0} (numbers : A → List ℕ) → ((a b : A) → numbers a ≡ numbers b → a ≡ b) → (o p : Outcome A) → told numbers o ≡ told numbers p → o ≡ p
whole-told numbers inj (read a m) (read b n) e =
    let r = last_one (numbers a) (numbers b) m n (cc) in
    cc (inj a b r.0, r.1)
whole-told numbers inj (read a m) (fault y) e = cc
whole-told numbers inj (fault x) (read b n) e = cc
whole-told {A} numbers inj (fault x) (fault y) e =
    let stop : Fault → Outcome A = fault in
    ap stop (whole-fault x y e)

one_number : (m n : ℕ) → (m ∷ []) ≡ (n ∷ []) → m ≡ n
one_number m n e = cc

one-there : (b c : Bool) → (there_as b ∷ []) ≡ (there_as c ∷ []) → b ≡ c
one-there true true e = refl
one-there true false e =
    let z : ◌≡◌ {A = ℕ} 1 0 = cc in
    absurd (omega arith)
one-there false true e =
    let z : ◌≡◌ {A = ℕ} 0 1 = cc in
    absurd (omega arith)
one-there false false e = refl

-- and the cursor's answers
pub paper_found_lem : (a b : Result (ℕ × Cursor) Fault) → paper_found a ≡ paper_found b → a ≡ b
paper_found_lem a b e = whole-found a b (whole-told (λ n. n ∷ []) one_number (found a) (found b) e)

pub paper_moved_lem : (a b : Result Cursor Fault) → paper_moved a ≡ paper_moved b → a ≡ b
paper_moved_lem a b e = whole-moved a b (whole-told (λ u. []) (λ u v f. refl) (moved a) (moved b) e)

pub paper_begun_lem : (here : Cursor) (a b : Option Cursor) → paper_begun here a ≡ paper_begun here b → a ≡ b
paper_begun_lem here a b e = whole-begun here a b (whole-told (λ t. there_as t ∷ []) one-there (begun here a) (begun here b) e)
