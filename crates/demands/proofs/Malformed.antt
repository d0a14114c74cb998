-- 16 and 17 occur exactly where 2 did: call by call.
use Rattle.std.specs.Prelude.{Result, Ok, Err}
use Prim.Native.Nat.{ℕ, ◌/◌}
use mathlib.Core.Bool.{Bool, true, false}
use mathlib.Core.List.{List, [], ◌∷◌, ◌++◌}
use mathlib.Core.Path.{◌≡◌, refl, sym, ◌∙◌, ap}
use native.Mathlib.Omega.{arith}
use lib.Dec.{ltb}
use lib.ListN.{length}
use Rattle.octets.specs.declared.Endianness.{Endianness}
use Rattle.octets.specs.declared.Fault.{Fault}
use Rattle.octets.specs.declared.Refusal.{Refusal}
use Rattle.octets.specs.declared.Fault.TheVariants.{Cut, Mark}
use Rattle.octets.specs.Former.{former_fault, former_told, as_two}
use Rattle.octets.specs.Paper.{Paper}
use Rattle.octets.specs.Paper.Paper.{accepts, refuses}
use Rattle.octets.specs.Reader.{Outcome, run}
use Rattle.octets.specs.Reader.Outcome.{read, fault}
use Rattle.octets.specs.Refusals.{told, paper_fault}
use Rattle.octets.proofs.Former.{fault-as_two, told_as-two, not_two, told_not_two}
use Rattle.octets.proofs.Refusing.{given}
use Rattle.octets.proofs.Tests.{held, failed}
use Rattle.header.specs.declared.Header.{Header}
use Rattle.header.specs.Header.{HeaderBytes, header_bytes, header_numbers, valued}
use Rattle.header.proofs.Refusing.{Counts, Told, header-gives}
use Rattle.dna.specs.Catalogue.{Dna, Rooms, catalogue, rooms, counts, count_numbers, counts_only, answer_for, read_as as tablesAs}
use Rattle.dna.specs.declared.dna.DnaCounts.{DnaCounts}
use Rattle.dna.proofs.Refusing.{catalogue-gives}
use Rattle.field.proofs.Functions.{function_as-two, function_not_two}
use Rattle.blend.specs.declared.blend.Boundary.{Boundary}
use Rattle.block.specs.Rows.{per_row, row_numbers}
use Rattle.blend.specs.Blocks.{boundary_of}
use Rattle.blend.specs.Chain.{Chain, File, on_header, file_by, read_as, answer_for as answer_of}
use Rattle.blend.proofs.Refusing.{boundary_told, header_told_lem, file-told}
use Rattle.walker.specs.declared.Place.{Place}
use Rattle.walker.specs.Walker.{Walked, end_mark, stands_for, step_over, step_by, on_header as walkOn}
use Rattle.exports.specs.Exports.{order_of}
use Rattle.demands.specs.Malformed.{AsBefore, WhereTwoWas, former_answer_for, former_read_as, former_tables_as, former_step_over, former_on_header, former_step_as}
use Rattle.demands.proofs.Files.{filed}

-- a fault that a file or a walk gives, and an answer that is no refusal
early : (x : Fault) → Told x → AsBefore (paper_fault x) (former_fault x)
early x f = (fault-as_two x (λ r e. omega (arith, (f r e).1)), not_two x (λ r e. (f r e).2))

accepted : (k : ℕ) (vs : List ℕ) → AsBefore (accepts k vs) (accepts k vs)
accepted k vs = (refl, λ ws e. let z : ◌≡◌ {A = ℕ} 0 1 = cc in omega arith)

by_paths : (p q f g : Paper) → p ≡ q → f ≡ g → AsBefore q g → AsBefore p f
by_paths p q f g e d w = (ap as_two e ∙ w.0 ∙ sym d, λ vs k. w.1 vs (sym e ∙ k))

-- a header, and what follows it
valued-fault : (o : Outcome HeaderBytes) (r : Refusal) → valued o ≡ fault (Fault.Refusal r) → o ≡ fault (Fault.Refusal r)
valued-fault (read b next) r e = cc
valued-fault (fault x) r e = cc

module _ (s : List ℕ) where
  gave : (r : Refusal) → valued (run header_bytes s 0) ≡ fault (Fault.Refusal r) → Counts r
  gave r e = given Counts header_bytes (header-gives Counts (omega arith, omega arith, λ o. omega arith)) s 0 r (valued-fault (run header_bytes s 0) r e)

  header-two : AsBefore (told header_numbers (valued (run header_bytes s 0))) (former_told header_numbers (valued (run header_bytes s 0)))
  header-two = (
    told_as-two header_numbers (valued (run header_bytes s 0)) (λ r e. omega (arith, (gave r e).1)),
    told_not_two header_numbers (valued (run header_bytes s 0)) (λ r e. (gave r e).2),
  )

  answer-two : (h : Header) (rows room : ℕ) (l : Outcome DnaCounts) → ((x : Fault) → l ≡ fault x → Told x) → AsBefore (answer_of h rows room l) (former_answer_for h rows room l)
  answer-two h rows room (fault x) f = early x (f x refl)
  answer-two h rows room (read n end) f = go (ltb room rows)
    where
      go : (b : Bool)
          → AsBefore (elim b as (λ (c : Bool). Paper) [ true ↦ refuses 7 (rows ∷ []) | false ↦ accepts 0 (header_numbers h ++ (rows ∷ end ∷ count_numbers n)) ])
          (elim b as (λ (c : Bool). Paper) [ true ↦ refuses 7 (rows ∷ []) | false ↦ accepts 0 (header_numbers h ++ (rows ∷ end ∷ count_numbers n)) ])
      go true = (refl, λ vs e. let z : ◌≡◌ {A = ℕ} 7 2 = cc in omega arith)
      go false = accepted 0 (header_numbers h ++ (rows ∷ end ∷ count_numbers n))

  read_two_lem : (room : ℕ) → AsBefore (read_as (file_by header_bytes s) room) (former_read_as (file_by header_bytes s) room)
  unfolding read_as
  read_two_lem room = go (file_by header_bytes s) refl
    where
      go : (o : Outcome File) → file_by header_bytes s ≡ o → AsBefore (read_as o room) (former_read_as o room)
      go (fault x) t = early x (header_told_lem s x t)
      go (read f at) t =
          answer-two f.header (length f.chain.rows) room f.chain.last (λ x e. file-told f.header s at x (sym (ap (λ (c : Chain). c.last) (filed header_bytes s f at t).chained) ∙ e))

-- a step of a walk
mark-two : (b : Bool) (next : ℕ) → AsBefore (end_mark b next) (end_mark b next)
mark-two true next = accepted 1 (next ∷ [])
mark-two false next = (refl, λ vs e. let z : ◌≡◌ {A = ℕ} 6 2 = cc in omega arith)

module _ (s : List ℕ) (p : Place) where
  over-two : (b : Place) (d : Result Boundary Fault) → ((x : Fault) → d ≡ Err x → Told x) → AsBefore (step_over p b d).answer (former_step_over b d)
  over-two b (Ok Boundary.EndMark) f = mark-two b.dna _
  over-two b (Ok (Boundary.Block r l next)) f = accepted 0 (row_numbers r)
  over-two b (Err x) f = early x (f x refl)

  header-step : (o : Outcome Header) → ((x : Fault) → o ≡ fault x → Told x) → AsBefore (walkOn s p o).answer (former_on_header s p o)
  header-step (read h first) f = over-two (stands_for first p) (boundary_of h s (stands_for first p).at) (λ x e. boundary_told h s (stands_for first p).at x e)
  header-step (fault x) f = early x (f x refl)

  step-two : AsBefore (step_by header_bytes s p).answer (former_step_as s p)
  unfolding step_by
  step-two = go (ltb (length s) p.at) refl
    where
      started : (x : Fault) → valued (run header_bytes s 0) ≡ fault x → Told x
      started x e = header_told_lem s x (ap (on_header s) e)

      go : (b : Bool) → ltb (length s) p.at ≡ b → AsBefore (step_by header_bytes s p).answer (former_step_as s p)
      go true t = by_paths _ (refuses 13 []) _ (refuses 13 []) (ap (λ (w : Walked). w.answer) (held _ _ t)) (held _ _ t) (refl, λ vs e. let z : ◌≡◌ {A = ℕ} 13 2 = cc in omega arith)
      go false t = by_paths _ _ _ _ (ap (λ (w : Walked). w.answer) (failed _ _ t)) (failed _ _ t) (header-step (valued (run header_bytes s 0)) started)

-- a catalogue: its tree has no refusal of its own
short-two : (n : DnaCounts) (r : Rooms) → AsBefore (answer_for n r) (answer_for n r)
unfolding answer_for
short-two n r = go (ltb r.names n.names) (ltb r.types n.types) (ltb r.structs n.structs) (ltb r.fields n.fields)
  where
    by : (a b c d : Bool) → Paper
    by a b c d =
        elim a as (λ (x : Bool). Paper) [
          | true ↦ refuses 8 (1 ∷ n.names ∷ [])
          | false ↦ elim b as (λ (x : Bool). Paper) [
            | true ↦ refuses 8 (2 ∷ n.types ∷ [])
            | false ↦ elim c as (λ (x : Bool). Paper) [
              | true ↦ refuses 8 (3 ∷ n.structs ∷ [])
              | false ↦ elim d as (λ (x : Bool). Paper) [ true ↦ refuses 8 (4 ∷ n.fields ∷ []) | false ↦ accepts 0 (count_numbers n) ]
            ]
          ]
        ]

    eight : (vs : List ℕ) → AsBefore (refuses 8 vs) (refuses 8 vs)
    eight vs = (refl, λ ws e. let z : ◌≡◌ {A = ℕ} 8 2 = cc in omega arith)

    go : (a b c d : Bool) → AsBefore (by a b c d) (by a b c d)
    go true b c d = eight _
    go false true c d = eight _
    go false false true d = eight _
    go false false false true = eight _
    go false false false false = accepted 0 (count_numbers n)

tables_two : (o : Outcome Dna) (r : Rooms) → ((q : Refusal) → o ≡ fault (Fault.Refusal q) → ⊥) → AsBefore (tablesAs o r) (former_tables_as o r)
unfolding tablesAs
tables_two (read d next) r f = short-two (counts d) r
tables_two (fault (Cut at)) r f = (refl, not_two (Cut at) (λ q e z. f q (ap fault e)))
tables_two (fault (Mark at)) r f = (refl, not_two (Mark at) (λ q e z. f q (ap fault e)))
tables_two (fault (Fault.Refusal q)) r f = absurd (f q refl)

module _ (e : Endianness) (s : List ℕ) where
  none : (q : Refusal) → run (catalogue e) s 0 ≡ fault (Fault.Refusal q) → ⊥
  none q g = given (λ m. ⊥) (catalogue e) (catalogue-gives (λ m. ⊥) e) s 0 q g

  counts-fault : (o : Outcome Dna) (q : Refusal) → counts_only o ≡ fault (Fault.Refusal q) → o ≡ fault (Fault.Refusal q)
  counts-fault (read d next) q g = cc
  counts-fault (fault x) q g = cc

  counts-two : AsBefore (told count_numbers (counts_only (run (catalogue e) s 0))) (former_told count_numbers (counts_only (run (catalogue e) s 0)))
  counts-two =
      let o = run (catalogue e) s 0 in (
        told_as-two count_numbers (counts_only o) (λ q g. absurd (none q (counts-fault o q g))),
        told_not_two count_numbers (counts_only o) (λ q g z. none q (counts-fault o q g)),
      )

pub where_two_was : WhereTwoWas
where_two_was =
    record {
      of-header = λ s r w. by_paths _ _ _ _ w refl (header-two s);
      of-blend = λ s t t' r w. by_paths _ _ _ _ w.0 refl (read_two_lem s (length t / per_row));
      of-step = λ s p r w. by_paths _ _ _ _ w.0 refl (step-two s p);
      of-held = λ h r w. by_paths _ _ _ _ w.0 refl (step-two h.file.now h.place);
      of-dna = λ s e n t u f n' t' u' f' r w.
          by_paths _ _ _ _ w.answer refl (tables_two (run (catalogue e) s 0) (rooms (length n) (length t) (length u) (length f)) (none e s));
      of-counts = λ s e r w. by_paths _ _ _ _ (ap (told count_numbers) w) refl (counts-two e s);
      of_function = λ name r w. by_paths _ _ _ _ w refl (function_as-two name, function_not_two name);
      header_exported = λ s r w. (told header_numbers (valued (run header_bytes s 0)), w, header-two s);
      read_exported = λ s t t' r w. (read_as (file_by header_bytes s) (length t / per_row), w.0, read_two_lem s (length t / per_row));
      catalogue_exported = λ s o n t u f n' t' u' f' r w.
          let q = rooms (length n) (length t) (length u) (length f) in
          (tablesAs (run (catalogue (order_of o)) s 0) q, w.answer, tables_two (run (catalogue (order_of o)) s 0) q (none (order_of o) s));
    }
