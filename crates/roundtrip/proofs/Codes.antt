-- A row that is taken: its code is one that four bytes hold and is no end mark, and a catalogue is found where it is a DNA1. And a block that was read is such a row.
use Rattle.std.specs.Prelude.{Result, Ok, Option, Some, None}
use Prim.Native.Nat.{ℕ, ◌^◌, ◌<◌}
use mathlib.Core.Bool.{Bool, true, false}
use mathlib.Core.List.{List}
use mathlib.Core.Path.{◌≡◌, refl, sym, ◌∙◌, ap}
use native.Mathlib.Omega.{arith}
use borrow.Author.Tests.{ltb-true, ltb-false}
use lib.Dec.{ltb, eqb}
use Rattle.octets.specs.declared.Refusal.TheVariants.{UnsupportedCountOnPrincipalBlock, UnknownBlockCode}
use Rattle.octets.specs.declared.Endianness.{Endianness}
use Rattle.octets.specs.Reader.{Reader, Outcome, run, then}
use Rattle.octets.specs.Reader.Reader.{done, refuse}
use Rattle.octets.specs.Reader.Outcome.{read, fault}
use Rattle.octets.proofs.Reading.{onwards, run-then}
use Rattle.octets.proofs.Tests.{held, failed}
use Rattle.dna.specs.declared.dna.DnaCounts.{DnaCounts}
use Rattle.dna.specs.Catalogue.{Dna, catalogue, counts, counts_only}
use Rattle.header.specs.declared.Header.{Header}
use Rattle.block.specs.declared.Kind.{Kind}
use Rattle.block.specs.declared.Takes.{Takes}
use Rattle.block.specs.declared.Row.{Row}
use Rattle.block.specs.Kinds.{code_number, kind_of, about}
use Rattle.block.specs.Rows.{payload_of}
use Rattle.block.proofs.Codes.{large_unknown, mark_unknown}
use Rattle.blend.specs.declared.blend.Boundary.{Boundary}
use Rattle.octets.specs.declared.Fault.{Fault}
use Rattle.blend.specs.Blocks.{taken_by, taken, is_dna, catalogued, finished}
use Rattle.writable.specs.Writable.{as_last}

-- a code's test passes, or refuses
abbrev pub after : Endianness → Bool → Reader (Option DnaCounts)
after e b = elim b as (λ c. Reader (Option DnaCounts)) [ true ↦ then (catalogue e) (λ d. done (Some (counts d))) | false ↦ done None ]

-- what a code's test is where something is found after it
pub passed : {A : Type 0} (t : Takes) (count : ℕ) (f : Unit {0} → Reader A) (p : List ℕ) (at : ℕ) (a : A) (end : ℕ) → run (then (taken_by t count) f) p at ≡ read a end
    → (taken_by t count ≡ done tt) × (run (f tt) p at ≡ read a end)
unfolding run then
passed Takes.Always count f p at a end g = (refl, g)
passed {A} Takes.Alone count f p at a end g = go (eqb count 1) refl g
  where
    go : (b : Bool) → eqb count 1 ≡ b
        → run (then (elim b as (λ c. Reader (Unit {0})) [ true ↦ done tt | false ↦ refuse UnsupportedCountOnPrincipalBlock ]) f) p at ≡ read a end
        → (taken_by Takes.Alone count ≡ done tt) × (run (f tt) p at ≡ read a end)
    go true q w = (held _ _ q, w)
    go false q w =
        let y : ◌≡◌ {A = ℕ} 0 1 = cc in
        absurd (omega arith)
passed Takes.Never count f p at a end g =
    let y : ◌≡◌ {A = ℕ} 0 1 = cc in
    absurd (omega arith)

-- A payload that is taken as l.
module _ (e : Endianness) (code count : ℕ) (p : List ℕ) (l : Option DnaCounts) (end : ℕ) (g : run (as_last e code count) p 0 ≡ read l end) where
  split : (taken (kind_of code) count ≡ done tt) × (run (after e (is_dna (kind_of code))) p 0 ≡ read l end)
  unfolding as_last
  split = passed (about (kind_of code)).takes count (λ u. after e (is_dna (kind_of code))) p 0 l end g

  pub code-taken : taken (kind_of code) count ≡ done tt
  code-taken = split.0

  unknown_not : kind_of code ≡ Kind.Unknown → ⊥
  unknown_not u =
      let w : refuse UnknownBlockCode ≡ done tt = sym (ap (λ (k : Kind). taken k count) u) ∙ code-taken in
      let y : ◌≡◌ {A = ℕ} 0 1 = cc in
      absurd (omega arith)

  pub code-small : code < 256 ^ 4
  code-small = go (ltb code (256 ^ 4)) refl
    where
      go : (b : Bool) → ltb code (256 ^ 4) ≡ b → code < 256 ^ 4
      go true q = ltb-true _ _ q
      go false q = absurd (unknown_not (large_unknown code (ltb-false _ _ q)))

  pub code-no-mark : code ≡ code_number "ENDB" → ⊥
  code-no-mark q = unknown_not (ap kind_of q ∙ mark_unknown)

  -- what follows from it at a boundary
  pub last-finished : (h : Header) (s : List ℕ) (r : Row) (next : ℕ) → h.endianness ≡ e → r.code ≡ code → payload_of s r ≡ p → finished h s r next ≡ Ok (Boundary.Block r l next)
  unfolding finished run
  last-finished h s r next o c q = go (is_dna (kind_of code)) refl split.1
    where
      catalogue-found : (x : Outcome Dna) → run (catalogue e) p 0 ≡ x → onwards x (λ d m. read (Some (counts d)) m) ≡ read l end → catalogued r next x ≡ Ok (Boundary.Block r l next)
      catalogue-found (read d m) u w =
          let y : (Some (counts d)) ≡ l = cc in
          ap (λ (k : Option DnaCounts). (Ok (Boundary.Block r k next))) y
      catalogue-found (fault f) u w =
          let y : ◌≡◌ {A = ℕ} 0 1 = cc in
          absurd (omega arith)

      go : (b : Bool) → is_dna (kind_of code) ≡ b → run (after e b) p 0 ≡ read l end
          → (elim (is_dna (kind_of r.code)) as (λ t. (Result Boundary Fault)) [ true ↦ catalogued r next (run (catalogue h.endianness) (payload_of s r) 0) | false ↦ Ok (Boundary.Block r None next) ])
          ≡ Ok (Boundary.Block r l next)
      go true u w =
          held _ _ (ap (λ (k : ℕ). is_dna (kind_of k)) c ∙ u) ∙ ap (λ (f : Endianness). catalogued r next (run (catalogue f) (payload_of s r) 0)) o
          ∙ ap (λ (x : List ℕ). catalogued r next (run (catalogue e) x 0)) q
          ∙ catalogue-found (run (catalogue e) p 0) refl (sym (run-then (catalogue e) (λ d. done (Some (counts d))) p 0) ∙ w)
      go false u w =
          let y : None ≡ l = cc in
          failed _ _ (ap (λ (k : ℕ). is_dna (kind_of k)) c ∙ u) ∙ ap (λ (k : Option DnaCounts). (Ok (Boundary.Block r k next))) y

-- the counts of a payload that is taken as a DNA1
pub dna-found : (e : Endianness) (code count : ℕ) (p : List ℕ) (n : DnaCounts) (end : ℕ) → run (as_last e code count) p 0 ≡ read (Some n) end → read n end ≡ counts_only (run (catalogue e) p 0)
unfolding run
dna-found e code count p n end g = go (is_dna (kind_of code)) (split e code count p (Some n) end g).1
  where
    counted : (x : Outcome Dna) → onwards x (λ d m. read (Some (counts d)) m) ≡ read (Some n) end → read n end ≡ counts_only x
    counted (read d m) w =
        let y : n ≡ counts d = cc in
        let z : end ≡ m = cc in
        ap (λ (k : DnaCounts). read k end) y ∙ ap (read (counts d)) z
    counted (fault f) w =
        let y : ◌≡◌ {A = ℕ} 0 1 = cc in
        absurd (omega arith)

    go : (b : Bool) → run (after e b) p 0 ≡ read (Some n) end → read n end ≡ counts_only (run (catalogue e) p 0)
    go true w = counted (run (catalogue e) p 0) (sym (run-then (catalogue e) (λ d. done (Some (counts d))) p 0) ∙ w)
    go false w =
        let y : ◌≡◌ {A = ℕ} 0 1 = cc in
        absurd (omega arith)
