-- The exported steps walk as the exported reading reads; and papers lose nothing.
use Rattle.std.specs.Prelude.{Result, Ok, Err}
use Prim.Native.Nat.{ℕ, ◌/◌}
use mathlib.Core.Bool.{Bool, true, false}
use mathlib.Core.List.{List, [], ◌∷◌}
use mathlib.Core.Path.{◌≡◌, refl, sym, ◌∙◌, ap}
use native.Mathlib.Omega.{arith}
use lib.ListN.{length}
use Rattle.octets.specs.Paper.{Paper}
use Rattle.octets.specs.Paper.Paper.{accepts}
use Rattle.octets.specs.Refusals.{refusal_of, paper_fault}
use Rattle.octets.proofs.Lossless.{whole-fault, paper_found_lem, paper_moved_lem, paper_begun_lem}
use Rattle.header.specs.Header.{header_bytes}
use Rattle.header.proofs.Lossless.{whole-header, paper_pointer_size_lem, paper_endianness_lem, paper_version_lem}
use Rattle.dna.proofs.Lossless.{whole_tables, paper_counted_lem as paper-dna-counted}
use Rattle.field.proofs.Lossless.{whole-function}
use Rattle.block.specs.declared.Row.{Row}
use Rattle.block.specs.Rows.{per_row}
use Rattle.block.proofs.Lossless.{paper_block_header_lem}
use Rattle.blend.specs.declared.blend.RawBlend.{RawBlend}
use Rattle.blend.specs.declared.blend.BlendError.{BlendError}
use Rattle.blend.specs.Chain.{file_by, read_as, paper_blend}
use Rattle.blend.proofs.Lossless.{whole-blend, paper_boundary_lem}
use Rattle.walker.specs.declared.Place.{Place}
use Rattle.walker.specs.declared.Step.{Step}
use Rattle.walker.specs.Walker.{Stepped, step_by, start, Stop, Walk, paper_step}
use Rattle.walker.specs.Walker.Stop.{ended, refused}
use Rattle.writable.proofs.Lossless.{whole_needed}
use Rattle.writer.proofs.Lossless.{whole-write}
use Rattle.walker.proofs.Lossless.{whole-step}
use Rattle.exports.specs.declared.BlendRead.{BlendRead}
use Rattle.exports.specs.declared.BlendStep.{BlendStep}
use Rattle.exports.specs.Calls.{blend_read, blend_step}
use Rattle.exports.specs.Exports.{dna_of, dna_number, place_from, step_out, read_out}
use Rattle.demands.specs.Answers.{rows_in}
use Rattle.demands.specs.Malformed.{StepWalk, StepsExported, PapersLoseNothing}
use Rattle.demands.proofs.Exported.{no_seven, stop_told, answered, read_by}
use Rattle.demands.proofs.Sentences.{walks_as_read}

dna-back : (b : Bool) → dna_of (dna_number b) ≡ b
dna-back true = refl
dna-back false = refl

place-back : (p : Place) → place_from p.at (dna_number p.dna) ≡ p
place-back p = ap (λ (b : Bool). record { at = p.at; dna = b }) (dna-back p.dna)

-- a step's answer, from the numbers that stand for its place
step-numbers : (s : List ℕ) (at dna : ℕ) (p : Place) → place_from at dna ≡ p → (a : Step) (q : Place) → paper_step a ≡ (step_by header_bytes s p).answer → q ≡ (step_by header_bytes s p).place
    → blend_step s at dna (step_out (paper_step a) q)
step-numbers s at dna p e a q x y =
    ap (λ (w : Paper). step_out w q) x ∙ ap (step_out (step_by header_bytes s p).answer) y
    ∙ ap (λ (o : Place). step_out (step_by header_bytes s o).answer (step_by header_bytes s o).place) (sym e)

abbrev paper_stop : Stop → Paper
paper_stop (ended n) = accepts 1 (n ∷ [])
paper_stop (refused x) = paper_fault x

walk_steps : (s : List ℕ) (p : Place) (rows : List Row) (a : Stop) → Walk (Stepped header_bytes s) p rows a → (at dna : ℕ) → place_from at dna ≡ p
    → (q : Place) × StepWalk s at dna rows (step_out (paper_stop a) q)
walk_steps s p [] (ended n) w at dna e = (p, step-numbers s at dna p e (Step.End n p) p w.0 w.1)
walk_steps s p [] (refused x) w at dna e = (p, step-numbers s at dna p e (Step.Refused x p) p w.0 w.1)
walk_steps s p (r ∷ rs) a w at dna e =
    let q = w.0 in
    let v = walk_steps s q rs a w.2 q.at (dna_number q.dna) (place-back q) in
    (v.0, (step_out (paper_step (Step.Block r q)) q, step-numbers s at dna p e (Step.Block r q) q w.1.0 w.1.1, refl, refl, refl, v.1))

pub steps_exported : StepsExported
steps_exported =
    record {
      ends = λ s t t' r w e.
          let x = read_by s t t' r w e in
          let b = x.answer in
          let v = walk_steps s start (rows_in t' b.rows) (ended b.end) (walks_as_read s t t' (Ok b) x.answers) 0 0 refl in
          rw x.told (step_out (paper_stop (ended b.end)) v.0, v.1, refl, refl, refl);
      short = λ s t t' r w e. lack s t t' r w e (answered (file_by header_bytes s) (length t / per_row)).0 (answered (file_by header_bytes s) (length t / per_row)).1;
      stops = λ s t t' r w z y. go s t t' r w z y (answered (file_by header_bytes s) (length t / per_row)).0 (answered (file_by header_bytes s) (length t / per_row)).1;
    }
  where
    lack : (s t t' : List ℕ) (r : BlendRead) → blend_read s t r t' → r.refusal ≡ 7 → (c : Result RawBlend BlendError) → paper_blend c ≡ read_as (file_by header_bytes s) (length t / per_row)
        → (rows : List Row) × (stop : BlendStep) × (length rows ≡ r.needed) × StepWalk s 0 0 rows stop × (stop.refusal ≡ 0) × (stop.kind ≡ 1)
    lack s t t' r w e (Ok b) k =
        let z : ◌≡◌ {A = ℕ} 0 7 = ap (λ (x : BlendRead). x.refusal) (sym (w.0 ∙ ap read_out (sym k))) ∙ e in
        absurd (omega arith)
    lack s t t' r w e (Err (BlendError.TableTooShort n)) k =
        let v = walks_as_read s t t' (Err (BlendError.TableTooShort n)) (k, w.1) in
        let u = walk_steps s start v.0 (ended v.1) v.3 0 0 refl in
        (v.0, step_out (paper_stop (ended v.1)) u.0, v.2 ∙ ap (λ (x : BlendRead). x.needed) (sym (w.0 ∙ ap read_out (sym k))), u.1, refl, refl)
    lack s t t' r w e (Err (BlendError.Fault x)) k =
        let z : refusal_of x ≡ 7 = ap (λ (q : BlendRead). q.refusal) (sym (w.0 ∙ ap read_out (sym k))) ∙ e in
        absurd (no_seven x (stop_told s (length t / per_row) x k) z)

    go : (s t t' : List ℕ) (r : BlendRead) → blend_read s t r t' → (r.refusal ≡ 0 → ⊥) → (r.refusal ≡ 7 → ⊥) → (c : Result RawBlend BlendError) → paper_blend c ≡ read_as (file_by header_bytes s) (length t / per_row)
        → (rows : List Row) × (stop : BlendStep) × StepWalk s 0 0 rows stop × (stop.refusal ≡ r.refusal) × (stop.fault_at ≡ r.fault_at)
    go s t t' r w z y (Ok b) k = absurd (z (ap (λ (x : BlendRead). x.refusal) (w.0 ∙ ap read_out (sym k))))
    go s t t' r w z y (Err (BlendError.TableTooShort n)) k = absurd (y (ap (λ (x : BlendRead). x.refusal) (w.0 ∙ ap read_out (sym k))))
    go s t t' r w z y (Err (BlendError.Fault x)) k =
        let v = walks_as_read s t t' (Err (BlendError.Fault x)) (k, w.1) in
        let u = walk_steps s start v.0 (refused x) v.1 0 0 refl in
        let e : read_out (paper_fault x) ≡ r = sym (w.0 ∙ ap read_out (sym k)) in
        (v.0, step_out (paper_fault x) u.0, u.1, ap (λ (q : BlendRead). q.refusal) e, ap (λ (q : BlendRead). q.fault_at) e)

pub papers_lose_nothing : PapersLoseNothing
papers_lose_nothing =
    record {
      of-fault = whole-fault;
      of_number = paper_found_lem;
      of_move = paper_moved_lem;
      of-run = paper_found_lem;
      of-begins = paper_begun_lem;
      of-pointer_size = paper_pointer_size_lem;
      of-endianness = paper_endianness_lem;
      of-version = paper_version_lem;
      of-header = whole-header;
      of-block_header = paper_block_header_lem;
      of_boundary = paper_boundary_lem;
      of-blend = whole-blend;
      of-step = whole-step;
      of-counts = paper-dna-counted;
      of_tables = whole_tables;
      of_function = whole-function;
      of_needed = whole_needed;
      of-write = whole-write;
    }
