-- What an answer that is no refusal, and the table after it, tell of the file: the rules read it, and the table's rows are theirs.
use Rattle.std.specs.Prelude.{Ok}
use Prim.Native.Nat.{ℕ, ◌/◌, ◌≤◌}
use mathlib.Core.Bool.{Bool, true, false}
use mathlib.Core.List.{List}
use mathlib.Core.Path.{◌≡◌, refl, ◌∙◌, ap}
use native.Mathlib.Omega.{arith}
use borrow.Author.Tests.{ltb-false}
use lib.Dec.{ltb}
use lib.ListN.{length}
use Rattle.octets.specs.declared.Fault.{Fault}
use Rattle.octets.specs.declared.Fault.TheVariants.{Cut, Mark}
use Rattle.octets.specs.Paper.{Paper}
use Rattle.octets.specs.Reader.{Outcome}
use Rattle.octets.specs.Reader.Outcome.{read, fault}
use Rattle.octets.specs.Refusals.{block_table_too_short, paper_fault}
use Rattle.octets.specs.Tables.{over, written}
use Rattle.octets.proofs.Tests.{held, failed}
use Rattle.dna.specs.declared.dna.DnaCounts.{DnaCounts}
use Rattle.blend.specs.declared.blend.RawBlend.{RawBlend}
use Rattle.blend.specs.Chain.{File, answer_for, read_as, rows_of, table_after, paper_blend}
use Rattle.block.specs.Rows.{per_row, row_table, rows_spelt}
use Rattle.blend.proofs.Lossless.{whole-blend}
use Rattle.block.proofs.Tables.{all-rows}
use Rattle.demands.specs.Answers.{rows_in}

-- the answer that a file's reading has, where the table has room
abbrev pub answer_of : File → DnaCounts → ℕ → RawBlend
answer_of f n end = record { header = f.header; rows = length f.chain.rows; end = end; dna = n }

pub record Accepted (o : Outcome File) (t t' : List ℕ) (b : RawBlend) : Type 0 where
  pub file : File
  pub first : ℕ
  pub found : o ≡ read file first
  pub last : file.chain.last ≡ read b.dna b.end
  pub answer : b ≡ answer_of file b.dna b.end
  pub fits : length file.chain.rows ≤ length t / per_row
  pub table : t' ≡ over (row_table file.chain.rows) t
  pub rows : rows_in t' b.rows ≡ file.chain.rows

no-fault : (b : RawBlend) (x : Fault) → paper_blend (Ok b) ≡ paper_fault x → ⊥
no-fault b (Cut n) e =
    let z : ◌≡◌ {A = ℕ} 0 1 = cc in
    absurd (omega arith)
no-fault b (Mark n) e =
    let z : ◌≡◌ {A = ℕ} 0 1 = cc in
    absurd (omega arith)
no-fault b (Fault.Refusal n) e =
    let z : ◌≡◌ {A = ℕ} 0 1 = cc in
    absurd (omega arith)

module _ (o : Outcome File) (t t' : List ℕ) (b : RawBlend) (p : paper_blend (Ok b) ≡ read_as o (length t / per_row)) (q : t' ≡ table_after o t) where
  module _ (f : File) (first : ℕ) (e : o ≡ read f first) (n : DnaCounts) (end : ℕ) (l : f.chain.last ≡ read n end) where
    answered : read_as o (length t / per_row) ≡ answer_for f.header (length f.chain.rows) (length t / per_row) (read n end)
    unfolding read_as
    answered = ap (λ (x : Outcome File). read_as x (length t / per_row)) e ∙ ap (answer_for f.header (length f.chain.rows) (length t / per_row)) l

    fitting : ltb (length t / per_row) (length f.chain.rows) ≡ false → Accepted o t t' b
    fitting g =
        let a : read_as o (length t / per_row) ≡ paper_blend (Ok (answer_of f n end)) = answered ∙ failed _ _ g in
        let c : (Ok b) ≡ (Ok (answer_of f n end)) = whole-blend (Ok b) (Ok (answer_of f n end)) (p ∙ a) in
        let d : b ≡ answer_of f n end = cc in
        let u : t' ≡ over (row_table f.chain.rows) t =
        q ∙ ap (λ (x : Paper). written x (row_table (rows_of o)) t) a ∙ ap (λ (x : Outcome File). over (row_table (rows_of x)) t) e in
        record {
          file = f;
          first = first;
          found = e;
          last = rw d l;
          answer = rw d refl;
          fits = ltb-false _ _ g;
          table = u;
          rows = ap (λ (x : List ℕ). rows_spelt x b.rows 0) u ∙ ap (λ (x : RawBlend). rows_spelt (over (row_table f.chain.rows) t) x.rows 0) d ∙ all-rows f.chain.rows _;
        }

  pub accepted : Accepted o t t' b
  unfolding read_as
  accepted = go o refl
    where
      room : (f : File) (first : ℕ) → o ≡ read f first → (n : DnaCounts) (end : ℕ) → f.chain.last ≡ read n end → (c : Bool) → ltb (length t / per_row) (length f.chain.rows) ≡ c → Accepted o t t' b
      room f first e n end l true g =
          let k : paper_blend (Ok b) ≡ block_table_too_short (length f.chain.rows) = p ∙ answered f first e n end l ∙ held _ _ g in
          let z : ◌≡◌ {A = ℕ} 0 1 = cc in
          absurd (omega arith)
      room f first e n end l false g = fitting f first e n end l g

      ends : (f : File) (first : ℕ) → o ≡ read f first → (x : Outcome DnaCounts) → f.chain.last ≡ x → Accepted o t t' b
      ends f first e (read n end) l = room f first e n end l (ltb (length t / per_row) (length f.chain.rows)) refl
      ends f first e (fault x) l =
          absurd (no-fault b x (p ∙ ap (λ (y : Outcome File). read_as y (length t / per_row)) e ∙ ap (answer_for f.header (length f.chain.rows) (length t / per_row)) l))

      go : (x : Outcome File) → o ≡ x → Accepted o t t' b
      go (read f first) e = ends f first e f.chain.last refl
      go (fault x) e = absurd (no-fault b x (p ∙ ap (λ (y : Outcome File). read_as y (length t / per_row)) e))
