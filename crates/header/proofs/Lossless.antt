-- The papers and the outcomes of the answers lose nothing: two answers that are told alike are the same answer.
use Prim.Native.Nat.{ℕ}
use mathlib.Core.List.{[], ◌∷◌}
use mathlib.Core.Path.{◌≡◌, refl, sym, ◌∙◌, ap}
use Rattle.std.specs.Prelude.{Result, Ok, Err}
use Rattle.octets.specs.declared.Endianness.{Endianness}
use Rattle.octets.specs.declared.Endianness.TheVariants.{Little, Big}
use Rattle.octets.specs.declared.Fault.{Fault}
use Rattle.octets.specs.declared.PointerSize.{PointerSize}
use Rattle.octets.specs.declared.PointerSize.TheVariants.{Bits32, Bits64}
use Rattle.octets.specs.declared.cursor.Cursor.{Cursor}
use Rattle.octets.specs.Cursor.{found}
use Rattle.octets.specs.PointerSize.{pointer_bytes}
use Rattle.octets.specs.Reader.{Outcome}
use Rattle.octets.specs.Reader.Outcome.{read, fault}
use Rattle.octets.proofs.Lossless.{whole-fault, whole-told, whole-found}
use Rattle.header.specs.declared.FileFormat.{FileFormat}
use Rattle.header.specs.declared.FileFormat.TheVariants.{Legacy, New}
use Rattle.header.specs.declared.Header.{Header}
use Rattle.header.specs.declared.Version.{Version}
use Rattle.header.specs.Header.{edition, order, header_as, paper_header, paper_pointer_size, paper_endianness, paper_version}

edition-one : (f g : FileFormat) → edition f ≡ edition g → f ≡ g
edition-one Legacy Legacy e = refl
edition-one Legacy New e = cc
edition-one New Legacy e = cc
edition-one New New e = refl

pointer_one : (p q : PointerSize) → pointer_bytes p ≡ pointer_bytes q → p ≡ q
pointer_one Bits32 Bits32 e = refl
pointer_one Bits32 Bits64 e = cc
pointer_one Bits64 Bits32 e = cc
pointer_one Bits64 Bits64 e = refl

order-one : (a b : Endianness) → order a ≡ order b → a ≡ b
order-one Little Little e = refl
order-one Little Big e = cc
order-one Big Little e = cc
order-one Big Big e = refl

-- a header by its numbers
pub header-one : (h k : Header) → edition h.format ≡ edition k.format → pointer_bytes h.pointer_size ≡ pointer_bytes k.pointer_size
    → order h.endianness ≡ order k.endianness → h.version.major ≡ k.version.major → h.version.minor ≡ k.version.minor → h ≡ k
header-one h k a b c d e =
    let f = edition-one h.format k.format a in
    let p = pointer_one h.pointer_size k.pointer_size b in
    let o = order-one h.endianness k.endianness c in
    ap (λ (x : FileFormat). record { pointer_size = h.pointer_size; endianness = h.endianness; version = h.version; format = x }) f
    ∙ ap (λ (x : PointerSize). record { pointer_size = x; endianness = h.endianness; version = h.version; format = k.format }) p
    ∙ ap (λ (x : Endianness). record { pointer_size = k.pointer_size; endianness = x; version = h.version; format = k.format }) o
    ∙ ap (λ (x : ℕ). record { pointer_size = k.pointer_size; endianness = k.endianness; version = record { major = x; minor = h.version.minor }; format = k.format }) d
    ∙ ap (λ (x : ℕ). record { pointer_size = k.pointer_size; endianness = k.endianness; version = record { major = k.version.major; minor = x }; format = k.format }) e

-- the header's answer, and what the tree found where it is known
pub whole-header : (a b : Result (Header × ℕ) Fault) → paper_header a ≡ paper_header b → a ≡ b
whole-header (Ok (h, n)) (Ok (k, m)) e = cc (header-one h k (cc) (cc) (cc) (cc) (cc))
whole-header (Ok (h, n)) (Err m) e = cc
whole-header (Err n) (Ok (k, m)) e = cc
whole-header (Err x) (Err y) e = ap Err (whole-fault x y e)

pub header_known : (h : Header) (at : ℕ) (o : Outcome Header) → paper_header (Ok (h, at)) ≡ header_as o → o ≡ read h at
header_known h at (read k m) e = cc (header-one h k (cc) (cc) (cc) (cc) (cc))
header_known h at (fault x) e = cc

pub header_refused : (x : Fault) (o : Outcome Header) → paper_header (Err x) ≡ header_as o → o ≡ fault x
header_refused x (read k m) e = cc
header_refused x (fault y) e =
    let stop : Fault → Outcome Header = fault in
    ap stop (whole-fault y x (sym e))

-- and what its parts are told as
one_pointer : (p q : PointerSize) → (pointer_bytes p ∷ []) ≡ (pointer_bytes q ∷ []) → p ≡ q
one_pointer p q e = pointer_one p q (cc)

one-order : (a b : Endianness) → (order a ∷ []) ≡ (order b ∷ []) → a ≡ b
one-order a b e = order-one a b (cc)

one-version : (v w : Version) → (v.major ∷ v.minor ∷ []) ≡ (w.major ∷ w.minor ∷ []) → v ≡ w
one-version v w e =
    let a : v.major ≡ w.major = cc in
    let b : v.minor ≡ w.minor = cc in
    ap (λ (n : ℕ). record { major = n; minor = v.minor }) a ∙ ap (λ (n : ℕ). record { major = w.major; minor = n }) b

pub paper_pointer_size_lem : (a b : Result (PointerSize × Cursor) Fault) → paper_pointer_size a ≡ paper_pointer_size b → a ≡ b
paper_pointer_size_lem a b e = whole-found a b (whole-told (λ p. pointer_bytes p ∷ []) one_pointer (found a) (found b) e)

pub paper_endianness_lem : (a b : Result (Endianness × Cursor) Fault) → paper_endianness a ≡ paper_endianness b → a ≡ b
paper_endianness_lem a b e = whole-found a b (whole-told (λ o. order o ∷ []) one-order (found a) (found b) e)

pub paper_version_lem : (a b : Result (Version × Cursor) Fault) → paper_version a ≡ paper_version b → a ≡ b
paper_version_lem a b e = whole-found a b (whole-told (λ v. v.major ∷ v.minor ∷ []) one-version (found a) (found b) e)
