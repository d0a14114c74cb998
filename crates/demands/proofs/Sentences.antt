-- Document 01's sentences, from the laws beside the rules that they are about.
use Rattle.std.specs.Prelude.{Ok, Err}
use Prim.Native.Nat.{ℕ, ◌/◌}
use mathlib.Core.Bool.{Bool, true, false}
use mathlib.Core.List.{List, [], ◌∷◌}
use mathlib.Core.Path.{◌≡◌, refl, sym, ◌∙◌, ap, subst}
use native.Mathlib.Omega.{arith}
use lib.Dec.{ltb}
use lib.Ieee.{Format, binary32, binary64, nan_bits, of_bits}
use lib.ListN.{length, take}
use Rattle.octets.specs.declared.Endianness.{Endianness}
use Rattle.octets.specs.declared.Endianness.TheVariants.{Big}
use Rattle.octets.specs.declared.Fault.{Fault}
use Rattle.octets.specs.Paper.{Paper}
use Rattle.octets.specs.Paper.Paper.{accepts, real, refuses}
use Rattle.octets.specs.Number.{spelled}
use Rattle.primitive.specs.Primitive.{value_of, float}
use Rattle.octets.specs.Reader.{Outcome}
use Rattle.octets.specs.Reader.Outcome.{read, fault}
use Rattle.octets.specs.Refusals.{block_table_too_short, paper_fault}
use Rattle.octets.proofs.Lossless.{whole-fault}
use Rattle.blend.proofs.Lossless.{no_short}
use Rattle.octets.proofs.Tests.{held, failed}
use Rattle.primitive.proofs.Values.{float-bits}
use Rattle.dna.specs.declared.dna.DnaCounts.{DnaCounts}
use Rattle.block.specs.declared.Kind.{Kind}
use Rattle.block.specs.declared.Row.{Row}
use Rattle.blend.specs.declared.blend.BlendError.{BlendError}
use Rattle.block.specs.Kinds.{kind_of}
use Rattle.blend.specs.Chain.{File, file_by, answer_for, read_as, rows_of, paper_blend}
use Rattle.block.specs.Rows.{per_row}
use Rattle.header.specs.Header.{header_bytes}
use Rattle.walker.specs.Walker.{Stepped, start, Stop, Walk}
use Rattle.walker.specs.Walker.Stop.{ended, refused}
use Rattle.walker.proofs.Walks.{stop_of, stop_by, walks}
use Rattle.runtime.specs.Addresses.{has_code, code_as, paper_code}
use Rattle.runtime.proofs.Codes.{four_bytes_lem}
use Rattle.runtime.proofs.Lossless.{whole-pointer, whole_code}
use Rattle.held.proofs.Same.{same, same_rows}
use Rattle.demands.specs.Answers.{rows_in}
use Rattle.demands.specs.Sentences.{WalksAsRead, HeldWalksAsRead, OneSearch, FloatBits, code_of, CodeBytes, Names}
use Rattle.demands.proofs.Accepted.{accepted}
use Rattle.demands.proofs.Walked.{to_held}

-- how a reading that is refused stops, and one whose table is too short
refusing : (x y : Fault) → paper_fault y ≡ paper_fault x → refused x ≡ refused y
refusing x y e = ap refused (whole-fault x y (sym e))

module _ (room : ℕ) where
  stops-refused : (o : Outcome File) (y : Fault) → paper_fault y ≡ read_as o room → stop_by o ≡ refused y
  unfolding read_as
  stops-refused (fault x) y e = refusing x y e
  stops-refused (read f at) y e = last f.chain.last e
    where
      last : (l : Outcome DnaCounts) → paper_fault y ≡ answer_for f.header (length f.chain.rows) room l → stop_of l ≡ refused y
      last (fault x) g = refusing x y g
      last (read m end) g = fits (ltb room (length f.chain.rows)) refl
        where
          fits : (b : Bool) → ltb room (length f.chain.rows) ≡ b → ended end ≡ refused y
          fits true k = absurd (no_short (length f.chain.rows) y (sym (g ∙ held _ _ k)))
          fits false k =
              let q : paper_fault y ≡ paper_blend (Ok (record { header = f.header; rows = length f.chain.rows; end = end; dna = m })) = g ∙ failed _ _ k in
              cc

  stops-short : (o : Outcome File) (n : ℕ) → block_table_too_short n ≡ read_as o room → (end : ℕ) × (length (rows_of o) ≡ n) × (stop_by o ≡ ended end)
  unfolding read_as
  stops-short (fault x) n e = absurd (no_short n x e)
  stops-short (read f at) n e = last f.chain.last e
    where
      last : (l : Outcome DnaCounts) → block_table_too_short n ≡ answer_for f.header (length f.chain.rows) room l → (end : ℕ) × (length f.chain.rows ≡ n) × (stop_of l ≡ ended end)
      last (fault x) g = absurd (no_short n x g)
      last (read m end) g = fits (ltb room (length f.chain.rows)) refl
        where
          fits : (b : Bool) → ltb room (length f.chain.rows) ≡ b → (to : ℕ) × (length f.chain.rows ≡ n) × (ended end ≡ ended to)
          fits true k =
              let q : block_table_too_short n ≡ block_table_too_short (length f.chain.rows) = g ∙ held _ _ k in
              (end, cc, refl)
          fits false k =
              let q : block_table_too_short n ≡ paper_blend (Ok (record { header = f.header; rows = length f.chain.rows; end = end; dna = m })) = g ∙ failed _ _ k in
              let z : ◌≡◌ {A = ℕ} 0 1 = cc in
              absurd (omega arith)

pub walks_as_read : WalksAsRead
walks_as_read s t t' (Ok b) w =
    let a = accepted (file_by header_bytes s) t t' b w.0 w.1 in
    let x = subst (λ (o : Outcome File). Walk (Stepped header_bytes s) start (rows_of o) (stop_by o)) a.found (walks header_bytes s) in
    let y = subst (λ (l : Outcome DnaCounts). Walk (Stepped header_bytes s) start a.file.chain.rows (stop_of l)) a.last x in
    subst (λ (rs : List Row). Walk (Stepped header_bytes s) start rs (ended b.end)) (sym a.rows) y
walks_as_read s t t' (Err (BlendError.Fault x)) w =
    let rows = rows_of (file_by header_bytes s) in
    (rows, subst (λ (a : Stop). Walk (Stepped header_bytes s) start rows a) (stops-refused (length t / per_row) (file_by header_bytes s) x w.0) (walks header_bytes s))
walks_as_read s t t' (Err (BlendError.TableTooShort n)) w =
    let rows = rows_of (file_by header_bytes s) in
    let k = stops-short (length t / per_row) (file_by header_bytes s) n w.0 in
    (rows, k.0, k.1, subst (λ (a : Stop). Walk (Stepped header_bytes s) start rows a) k.2 (walks header_bytes s))

pub held-walks_as_read : HeldWalksAsRead
held-walks_as_read file v o t t' (Ok b) w = to_held file v o (rows_in t' b.rows) (ended b.end) (walks_as_read file.now t t' (Ok b) w)
held-walks_as_read file v o t t' (Err (BlendError.Fault x)) w =
    let k = walks_as_read file.now t t' (Err (BlendError.Fault x)) w in
    (k.0, to_held file v o k.0 (refused x) k.1)
held-walks_as_read file v o t t' (Err (BlendError.TableTooShort n)) w =
    let k = walks_as_read file.now t t' (Err (BlendError.TableTooShort n)) w in
    (k.0, k.1, k.2, to_held file v o k.0 (ended k.1) k.3)

pub one-search : OneSearch
one-search =
    record {
      of-table = λ t n address r q x y. whole-pointer r q (x ∙ same t n address ∙ sym y);
      of-rows = λ rows n address r q x y. whole-pointer r q (x ∙ same_rows rows n address ∙ sym y);
    }

-- a NaN's bits are those that were read
nan_bits_lem : (f : Format) (width : ℕ) (e : Endianness) (s : List ℕ) (n : ℕ) → accepts 1 (n ∷ []) ≡ value_of width (float f) e s → n ≡ spelled e (take width s)
unfolding value_of
nan_bits_lem f width e s n h = go (ltb (length s) width) refl
  where
    by : (c : Bool) → nan_bits f (spelled e (take width s)) ≡ c → accepts 1 (n ∷ []) ≡ float f (spelled e (take width s)) → n ≡ spelled e (take width s)
    by true t g =
        let k : accepts 1 (n ∷ []) ≡ accepts 1 (spelled e (take width s) ∷ []) = g ∙ held _ _ t in
        cc
    by false t g =
        let k : accepts 1 (n ∷ []) ≡ real (of_bits f (spelled e (take width s))) = g ∙ failed _ _ t in
        cc

    go : (c : Bool) → ltb (length s) width ≡ c → n ≡ spelled e (take width s)
    go true t =
        let g : accepts 1 (n ∷ []) ≡ refuses 12 [] = h ∙ held _ _ t in
        cc
    go false t = by (nan_bits f (spelled e (take width s))) refl (h ∙ failed _ _ t)

pub float-bits-read : FloatBits
float-bits-read =
    record {
      of_32 = λ slice e b x h. float-bits binary32 4 e slice x b refl h;
      nan_32 = λ slice e n h. nan_bits_lem binary32 4 e slice n h;
      of_64 = λ slice e b x h. float-bits binary64 8 e slice x b refl h;
      nan_64 = λ slice e n h. nan_bits_lem binary64 8 e slice n h;
    }

-- what the rule of `code` says of a kind, told
code_told_lem : (k : Kind) (a b c d : ℕ) → (elim (has_code k) as (λ (x : Bool). Paper) [ true ↦ accepts 0 (a ∷ b ∷ c ∷ d ∷ []) | false ↦ accepts 1 [] ]) ≡ paper_code (code_of k a b c d)
code_told_lem Kind.Rend a b c d = refl
code_told_lem Kind.Test a b c d = refl
code_told_lem Kind.Global a b c d = refl
code_told_lem Kind.Subsidiary a b c d = refl
code_told_lem Kind.Principal a b c d = refl
code_told_lem Kind.Dna a b c d = refl
code_told_lem Kind.Unknown a b c d = refl

pub code-bytes : CodeBytes
unfolding code_as
code-bytes a b c d ha hb hc hd r h =
    let k = kind_of (spelled Big (a ∷ b ∷ c ∷ d ∷ [])) in
    let e = ap {B = Paper} (λ (l : List ℕ). elim (has_code k) as (λ (x : Bool). Paper) [ true ↦ accepts 0 l | false ↦ accepts 1 [] ]) (four_bytes_lem a b c d ha hb hc hd) in
    whole_code r (code_of k a b c d) (h ∙ e ∙ code_told_lem k a b c d)

pub names : Names
names =
    record {
      of_char = λ r h. h;
      of_i8 = λ r h. h;
      of_u8 = λ r h. h;
      of_u16 = λ r h. h;
      of_i16 = λ r h. h;
      of_i32 = λ r h. h;
      of_u32 = λ r h. h;
      of_f32 = λ r h. h;
      of_f64 = λ r h. h;
      of_u64 = λ r h. h;
      of_i64 = λ r h. h;
    }
