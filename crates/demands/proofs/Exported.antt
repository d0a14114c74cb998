-- The demands of the exported reading: its numbers are those of an answer of `blend`, and the number 0 for the refusal tells that the file was read.
use Rattle.std.specs.Prelude.{Result, Ok, Err}
use Prim.Native.Nat.{ℕ, ◌/◌}
use mathlib.Core.Bool.{Bool, true, false}
use mathlib.Core.List.{List}
use mathlib.Core.Path.{◌≡◌, refl, sym, ◌∙◌, ap, subst}
use native.Mathlib.Omega.{arith}
use lib.Dec.{ltb}
use lib.ListN.{length}
use Rattle.octets.specs.declared.Endianness.{Endianness}
use Rattle.octets.specs.declared.Endianness.TheVariants.{Little, Big}
use Rattle.octets.specs.declared.Fault.{Fault}
use Rattle.octets.specs.declared.Fault.TheVariants.{Cut, Mark}
use Rattle.octets.specs.Paper.{Paper}
use Rattle.octets.specs.Reader.{Outcome}
use Rattle.octets.specs.Reader.Outcome.{read, fault}
use Rattle.octets.specs.Refusals.{refusal_of, paper_fault}
use Rattle.octets.proofs.Lossless.{whole-fault}
use Rattle.octets.proofs.Tests.{held, failed}
use Rattle.header.proofs.Refusing.{Told}
use Rattle.blend.proofs.Lossless.{no_short}
use Rattle.dna.specs.declared.dna.DnaCounts.{DnaCounts}
use Rattle.blend.specs.declared.blend.RawBlend.{RawBlend}
use Rattle.blend.specs.declared.blend.BlendError.{BlendError}
use Rattle.blend.specs.Calls.{Answers}
use Rattle.blend.specs.Chain.{Chain, File, file_by, answer_for, read_as, paper_blend}
use Rattle.blend.proofs.Refusing.{header_told_lem, file-told}
use Rattle.block.specs.Rows.{per_row}
use Rattle.header.specs.Header.{header_bytes, order}
use Rattle.exports.specs.declared.BlendRead.{BlendRead}
use Rattle.exports.specs.Calls.{blend_read}
use Rattle.exports.specs.Exports.{order_of, read_out}
use Rattle.demands.specs.Answers.{rows_in}
use Rattle.demands.specs.Cover.{Covered, EveryBlockExported}
use Rattle.demands.specs.Unaltered.{Alike, Stays, NoOtherObjectExported}
use Rattle.demands.proofs.Cover.{every-block}
use Rattle.demands.proofs.Files.{filed}
use Rattle.demands.proofs.Unaltered.{no_other_object}

-- whatever the rules answer, some answer of `blend` is told so
pub answered : (o : Outcome File) (room : ℕ) → (c : Result RawBlend BlendError) × (paper_blend c ≡ read_as o room)
unfolding read_as
answered (fault x) room = (Err (BlendError.Fault x), refl)
answered (read f at) room = last f.chain.last
  where
    rows : ℕ
    rows = length f.chain.rows

    last : (l : Outcome DnaCounts) → (c : Result RawBlend BlendError) × (paper_blend c ≡ answer_for f.header rows room l)
    last (fault x) = (Err (BlendError.Fault x), refl)
    last (read n end) = fits (ltb room rows) refl
      where
        fits : (b : Bool) → ltb room rows ≡ b → (c : Result RawBlend BlendError) × (paper_blend c ≡ answer_for f.header rows room (read n end))
        fits true e = (Err (BlendError.TableTooShort rows), sym (held _ _ e))
        fits false e = (Ok (record { header = f.header; rows = rows; end = end; dna = n }), sym (failed _ _ e))

-- no refusal of a file has the number 0, nor the 7 of a table
pub no_zero : (x : Fault) → Told x → refusal_of x ≡ 0 → ⊥
no_zero (Cut at) f e = omega arith
no_zero (Mark at) f e = omega arith
no_zero (Fault.Refusal r) f e = omega (arith, (f r refl).0)

pub no_seven : (x : Fault) → Told x → refusal_of x ≡ 7 → ⊥
no_seven (Cut at) f e = omega arith
no_seven (Mark at) f e = omega arith
no_seven (Fault.Refusal r) f e = omega (arith, (f r refl).1)

-- what a reading stops with is what a tree or a chain gave
pub stop_told : (s : List ℕ) (room : ℕ) (y : Fault) → paper_fault y ≡ read_as (file_by header_bytes s) room → Told y
unfolding read_as
stop_told s room y e = go (file_by header_bytes s) refl e
  where
    this : (x : Fault) → Told x → paper_fault y ≡ paper_fault x → Told y
    this x f g = subst Told (whole-fault x y (sym g)) f

    last : (f : File) (at : ℕ) → file_by header_bytes s ≡ read f at → (l : Outcome DnaCounts) → f.chain.last ≡ l → paper_fault y ≡ answer_for f.header (length f.chain.rows) room l → Told y
    last f at t (fault x) u g = this x (file-told f.header s at x (sym (ap (λ (c : Chain). c.last) (filed header_bytes s f at t).chained) ∙ u)) g
    last f at t (read n end) u g = fits (ltb room (length f.chain.rows)) refl
      where
        fits : (b : Bool) → ltb room (length f.chain.rows) ≡ b → Told y
        fits true k = absurd (no_short (length f.chain.rows) y (sym (g ∙ held _ _ k)))
        fits false k =
            let q : paper_fault y ≡ paper_blend (Ok (record { header = f.header; rows = length f.chain.rows; end = end; dna = n })) = g ∙ failed _ _ k in
            let z : ◌≡◌ {A = ℕ} 0 1 = cc in
            absurd (omega arith)

    go : (o : Outcome File) → file_by header_bytes s ≡ o → paper_fault y ≡ read_as o room → Told y
    go (fault x) t g = this x (header_told_lem s x t) g
    go (read f at) t g = last f at t f.chain.last refl g

-- the answer of `blend` that an exported reading without a refusal tells
pub record Read (s t t' : List ℕ) (r : BlendRead) : Type 0 where
  pub answer : RawBlend
  pub answers : Answers (file_by header_bytes) s t (Ok answer) t'
  pub told : r ≡ read_out (paper_blend (Ok answer))

pub read_by : (s t t' : List ℕ) (r : BlendRead) → blend_read s t r t' → r.refusal ≡ 0 → Read s t t' r
read_by s t t' r w e = go (answered (file_by header_bytes s) (length t / per_row)).0 (answered (file_by header_bytes s) (length t / per_row)).1
  where
    go : (c : Result RawBlend BlendError) → paper_blend c ≡ read_as (file_by header_bytes s) (length t / per_row) → Read s t t' r
    go (Ok b) k = record { answer = b; answers = (k, w.1); told = w.0 ∙ ap read_out (sym k) }
    go (Err (BlendError.Fault x)) k =
        let z : refusal_of x ≡ 0 = ap (λ (p : Paper). (read_out p).refusal) k ∙ ap (λ (q : BlendRead). q.refusal) (sym w.0) ∙ e in
        absurd (no_zero x (stop_told s (length t / per_row) x k) z)
    go (Err (BlendError.TableTooShort n)) k =
        let z : ◌≡◌ {A = ℕ} 7 0 = ap (λ (p : Paper). (read_out p).refusal) k ∙ ap (λ (q : BlendRead). q.refusal) (sym w.0) ∙ e in
        absurd (omega arith)

pub every-block_exported : EveryBlockExported
every-block_exported s t t' r w e =
    let k = read_by s t t' r w e in
    let b = k.answer in (
      b.header,
      (
        ap (λ (x : BlendRead). x.edition) k.told,
        ap (λ (x : BlendRead). x.pointer_bytes) k.told,
        ap (λ (x : BlendRead). x.order) k.told,
        ap (λ (x : BlendRead). x.major) k.told,
        ap (λ (x : BlendRead). x.minor) k.told,
      ),
      subst (λ (x : BlendRead). Covered header_bytes s b.header (rows_in t' x.rows) x.end) (sym k.told) (every-block s t t' (Ok b) k.answers),
    )

order-back : (e : Endianness) → order_of (order e) ≡ e
order-back Little = refl
order-back Big = refl

pub no_other_object_exported : NoOtherObjectExported
no_other_object_exported s t t' r w e z u u' q x long alike =
    let k = read_by s t t' r w e in
    let b = k.answer in
    let c = answered (file_by header_bytes z) (length u / per_row) in
    let like = subst (λ (y : BlendRead). Alike (rows_in t' y.rows) y.end s z) k.told alike in
    let d = no_other_object s t t' (Ok b) k.answers z u u' c.0 (c.1, x.1) long like in
    let f = subst (λ (i : Endianness). Stays s t t' b.rows i z u u') (sym (order-back b.header.endianness)) d.1 in (
      x.0 ∙ ap read_out (sym c.1) ∙ ap (λ (y : Result RawBlend BlendError). read_out (paper_blend y)) d.0 ∙ sym k.told,
      subst (λ (y : BlendRead). Stays s t t' y.rows (order_of y.order) z u u') (sym k.told) f,
    )
