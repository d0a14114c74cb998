-- What `fn_pointer` answers is what it was, with 16 and 17 told as 2, and is no 2.
use Prim.Native.Char.{code}
use Prim.Native.Nat.{ℕ, ◌+◌, ◌-◌, ◌≤◌}
use mathlib.Core.Bool.{Bool, true, false}
use mathlib.Core.List.{List, []}
use mathlib.Core.Path.{◌≡◌, refl, sym, ◌∙◌, ap}
use native.Mathlib.Omega.{arith}
use borrow.Author.Tests.{le-leb}
use lib.Dec.{ltb}
use lib.ListN.{length, drop}
use Rattle.octets.specs.declared.Fault.{Fault}
use Rattle.octets.specs.declared.Fault.TheVariants.{Cut, Mark}
use Rattle.octets.specs.Ascii.{ascii}
use Rattle.octets.specs.Former.{as_two}
use Rattle.octets.specs.Number.{tag}
use Rattle.octets.specs.Paper.Paper.{refuses}
use Rattle.octets.specs.Reader.{Reader, Outcome, run, room, stands, before, ended_by}
use Rattle.octets.specs.Reader.Reader.{done, here, until}
use Rattle.octets.specs.Reader.Outcome.{read, fault}
use Rattle.octets.specs.Refusals.{paper_fault}
use Rattle.octets.proofs.Former.{not_two}
use Rattle.octets.proofs.Marks.{stands-room}
use Rattle.octets.proofs.Onward.{tag-stands, tag-wrong, tag-cut}
use Rattle.octets.proofs.Refusing.{Gives, given, gives-tag}
use Rattle.octets.proofs.Tests.{held, failed}
use Rattle.field.specs.Declarators.{Span, function_pointer, function_told, function_as}
use Rattle.field.specs.Former.{name_closed, args_closed, is_function, former_function_as}
use Rattle.field.specs.Helpers.{function_args}

-- a mark by whether it stands: the tree goes on, or stops with a fault that is told as 2
pub Stops : {A : Type 0} → Outcome A → Type 0
Stops o = (x : Fault) × (o ≡ fault x) × (as_two (paper_fault x) ≡ refuses 2 [])

module _ {A : Type 0} (m : List ℕ) (r : Reader A) (s : List ℕ) (at : ℕ) where
  mark_on : 1 ≤ length m → stands s at m ≡ true → run (tag m r) s at ≡ run r s (at + length m)
  mark_on l e =
      let k : at + length m ≤ length s = omega (arith, stands-room s at m e) in
      tag-stands s at m r (le-leb _ _ k) e

  mark-stops : stands s at m ≡ false → Stops (run (tag m r) s at)
  unfolding Stops
  mark-stops e = go (room s at (length m)) refl
    where
      go : (b : Bool) → room s at (length m) ≡ b → Stops (run (tag m r) s at)
      go true t = (Mark at, tag-wrong s at m r t e, refl)
      go false t = (Cut at, tag-cut s at m r t, refl)

-- a run by whether it ends
module _ {A : Type 0} (c : ℕ) (k : ℕ → Reader A) (s : List ℕ) (at : ℕ) where
  run_on : ended_by c s at ≡ true → run (until c k) s at ≡ run (k (before c (drop at s))) s (at + (before c (drop at s) + 1))
  unfolding run
  run_on e = held _ _ e

  run-stops : ended_by c s at ≡ false → Stops (run (until c k) s at)
  unfolding run Stops
  run-stops e = (Cut at, failed _ _ e, refl)

stops-by : {A : Type 0} (o p : Outcome A) → o ≡ p → Stops p → Stops o
unfolding Stops
stops-by o p e w = (w.0, e ∙ w.1, w.2)

module _ (s : List ℕ) where
  len : ℕ
  len = before (code ")") (drop 2 s)

  told-two : Stops (run function_pointer s 0) → is_function s ≡ false → as_two (function_as s) ≡ former_function_as s
  unfolding Stops function_as
  told-two w e = ap (λ (o : Outcome Span). as_two (function_told s o)) w.1 ∙ w.2 ∙ sym (failed _ _ e)

  -- the four tests
  module _ (a : stands s 0 (ascii "(*") ≡ true) where
    opened : run function_pointer s 0 ≡ run (until (code ")") (λ n. function_args (2, n))) s 2
    unfolding function_pointer run
    opened = mark_on (ascii "(*") (here (λ at. until (code ")") (λ n. function_args (at, n)))) s 0 (omega arith) a

    module _ (b : ltb (name_closed s) (length s) ≡ true) where
      named : run function_pointer s 0 ≡ run (function_args (2, len)) s (name_closed s + 1)
      unfolding len
      named =
          let q : 2 + (before (code ")") (drop 2 s) + 1) ≡ name_closed s + 1 = omega arith in
          opened ∙ run_on (code ")") (λ n. function_args (2, n)) s 2 b ∙ ap (λ (at : ℕ). run (function_args (2, before (code ")") (drop 2 s))) s at) q

      module _ (c : stands s (name_closed s + 1) (ascii "(") ≡ true) where
        argued : run function_pointer s 0 ≡ run (until (code ")") (λ n. done (2, len))) s (name_closed s + 2)
        argued =
            let q : name_closed s + 1 + 1 ≡ name_closed s + 2 = omega arith in
            named ∙ mark_on (ascii "(") (until (code ")") (λ n. done (2, len))) s (name_closed s + 1) (omega arith) c
            ∙ ap (λ (at : ℕ). run (until (code ")") (λ n. done (2, len))) s at) q

        whole : ltb (args_closed s) (length s) ≡ true → as_two (function_as s) ≡ former_function_as s
        unfolding function_as len run
        whole d =
            let e : is_function s ≡ true = rw (a, b, c, d) in
            let n : before (code ")") (drop 2 s) ≡ name_closed s - 2 = omega arith in
            let q : name_closed s + 2 + (before (code ")") (drop (name_closed s + 2) s) + 1) ≡ args_closed s + 1 = omega arith in
            let f : run function_pointer s 0 ≡ read (2, name_closed s - 2) (args_closed s + 1) =
            argued ∙ run_on (code ")") (λ n. done (2, len)) s (name_closed s + 2) d ∙ ap (λ (i : ℕ). read (2, i) (name_closed s + 2 + (before (code ")") (drop (name_closed s + 2) s) + 1))) n
            ∙ ap (λ (i : ℕ). read (2, name_closed s - 2) i) q in
            ap (λ (o : Outcome Span). as_two (function_told s o)) f ∙ sym (held _ _ e)

  pub function_as-two : as_two (function_as s) ≡ former_function_as s
  unfolding function_pointer
  function_as-two = first (stands s 0 (ascii "(*")) refl
    where
      fourth : (a : stands s 0 (ascii "(*") ≡ true) (b : ltb (name_closed s) (length s) ≡ true) (c : stands s (name_closed s + 1) (ascii "(") ≡ true) (t : Bool)
          → ltb (args_closed s) (length s) ≡ t → as_two (function_as s) ≡ former_function_as s
      fourth a b c true d = whole a b c d
      fourth a b c false d = told-two (stops-by _ _ (argued a b c) (run-stops (code ")") (λ n. done (2, len)) s (name_closed s + 2) d)) (rw (a, b, c, d))

      third : (a : stands s 0 (ascii "(*") ≡ true) (b : ltb (name_closed s) (length s) ≡ true) (t : Bool) → stands s (name_closed s + 1) (ascii "(") ≡ t → as_two (function_as s) ≡ former_function_as s
      third a b true c = fourth a b c (ltb (args_closed s) (length s)) refl
      third a b false c = told-two (stops-by _ _ (named a b) (mark-stops (ascii "(") (until (code ")") (λ n. done (2, len))) s (name_closed s + 1) c)) (rw (a, b, c))

      second : (a : stands s 0 (ascii "(*") ≡ true) (t : Bool) → ltb (name_closed s) (length s) ≡ t → as_two (function_as s) ≡ former_function_as s
      second a true b = third a b (stands s (name_closed s + 1) (ascii "(")) refl
      second a false b = told-two (stops-by _ _ (opened a) (run-stops (code ")") (λ n. function_args (2, n)) s 2 b)) (rw (a, b))

      first : (t : Bool) → stands s 0 (ascii "(*") ≡ t → as_two (function_as s) ≡ former_function_as s
      first true a = second a (ltb (name_closed s) (length s)) refl
      first false a = told-two (mark-stops (ascii "(*") (here (λ at. until (code ")") (λ n. function_args (at, n)))) s 0 a) (rw a)

  -- the tree has no refusal of its own
  gives : Gives (λ r. ⊥) function_pointer
  unfolding function_pointer
  gives = gives-tag (λ r. ⊥) (ascii "(*") _ (λ at n. gives-tag (λ r. ⊥) (ascii "(") _ (λ m. tt))

  pub function_not_two : (vs : List ℕ) → function_as s ≡ refuses 2 vs → ⊥
  unfolding function_as
  function_not_two vs e = go (run function_pointer s 0) refl e
    where
      go : (o : Outcome Span) → run function_pointer s 0 ≡ o → function_told s o ≡ refuses 2 vs → ⊥
      go (read name next) t g = cc
      go (fault x) t g = not_two x (λ r q z. given (λ n. ⊥) function_pointer gives s 0 r (t ∙ ap fault q)) vs g
