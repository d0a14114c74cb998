-- The papers of the answers lose nothing: two answers that are told_as alike are the same answer.
use Prim.Native.Nat.{ℕ}
use mathlib.Core.List.{List}
use mathlib.Core.Path.{◌≡◌, sym, ◌∙◌, ap}
use native.Mathlib.Omega.{arith}
use Rattle.std.specs.Prelude.{Result, Ok, Err}
use Rattle.octets.specs.declared.Fault.{Fault}
use Rattle.octets.specs.declared.Refusal.{Refusal}
use Rattle.octets.specs.Paper.Paper.{refuses}
use Rattle.octets.proofs.Lossless.{whole-fault, one_refusal}
use Rattle.field.specs.declared.field.Declarator as records
use Rattle.field.specs.declared.field.FieldInfo.{FieldInfo}
use Rattle.field.specs.declared.field.FieldError.{FieldError}
use Rattle.field.specs.declared.field.Span as places
use Rattle.field.specs.Declarators.{paper_kind, paper_declarator, paper_scanned, paper_field, paper_function, paper_width}

place-one : (p q : places.Span) → p.at ≡ q.at → p.len ≡ q.len → p ≡ q
place-one p q a l = ap (λ (n : ℕ). record { at = n; len = p.len }) a ∙ ap (λ (n : ℕ). record { at = q.at; len = n }) l

-- equal papers of two kinds at two pairs of places
kind_one : (k m : FieldInfo) (a b c d a' b' c' d' : ℕ) → paper_kind k (a, b) (c, d) ≡ paper_kind m (a', b') (c', d')
    → (k ≡ m) × (a ≡ a') × (b ≡ b') × (c ≡ c') × (d ≡ d')
kind_one FieldInfo.Value FieldInfo.Value a b c d a' b' c' d' h = (cc, cc, cc, cc, cc)
kind_one FieldInfo.Value (FieldInfo.ValueArray l2 d2) a b c d a' b' c' d' h = (cc, cc, cc, cc, cc)
kind_one FieldInfo.Value (FieldInfo.Pointer n2) a b c d a' b' c' d' h = (cc, cc, cc, cc, cc)
kind_one FieldInfo.Value (FieldInfo.PointerArray n2 l2 d2) a b c d a' b' c' d' h = (cc, cc, cc, cc, cc)
kind_one FieldInfo.Value FieldInfo.FnPointer a b c d a' b' c' d' h = (cc, cc, cc, cc, cc)
kind_one (FieldInfo.ValueArray l1 d1) FieldInfo.Value a b c d a' b' c' d' h = (cc, cc, cc, cc, cc)
kind_one (FieldInfo.ValueArray l1 d1) (FieldInfo.ValueArray l2 d2) a b c d a' b' c' d' h = (cc, cc, cc, cc, cc)
kind_one (FieldInfo.ValueArray l1 d1) (FieldInfo.Pointer n2) a b c d a' b' c' d' h = (cc, cc, cc, cc, cc)
kind_one (FieldInfo.ValueArray l1 d1) (FieldInfo.PointerArray n2 l2 d2) a b c d a' b' c' d' h = (cc, cc, cc, cc, cc)
kind_one (FieldInfo.ValueArray l1 d1) FieldInfo.FnPointer a b c d a' b' c' d' h = (cc, cc, cc, cc, cc)
kind_one (FieldInfo.Pointer n1) FieldInfo.Value a b c d a' b' c' d' h = (cc, cc, cc, cc, cc)
kind_one (FieldInfo.Pointer n1) (FieldInfo.ValueArray l2 d2) a b c d a' b' c' d' h = (cc, cc, cc, cc, cc)
kind_one (FieldInfo.Pointer n1) (FieldInfo.Pointer n2) a b c d a' b' c' d' h = (cc, cc, cc, cc, cc)
kind_one (FieldInfo.Pointer n1) (FieldInfo.PointerArray n2 l2 d2) a b c d a' b' c' d' h = (cc, cc, cc, cc, cc)
kind_one (FieldInfo.Pointer n1) FieldInfo.FnPointer a b c d a' b' c' d' h = (cc, cc, cc, cc, cc)
kind_one (FieldInfo.PointerArray n1 l1 d1) FieldInfo.Value a b c d a' b' c' d' h = (cc, cc, cc, cc, cc)
kind_one (FieldInfo.PointerArray n1 l1 d1) (FieldInfo.ValueArray l2 d2) a b c d a' b' c' d' h = (cc, cc, cc, cc, cc)
kind_one (FieldInfo.PointerArray n1 l1 d1) (FieldInfo.Pointer n2) a b c d a' b' c' d' h = (cc, cc, cc, cc, cc)
kind_one (FieldInfo.PointerArray n1 l1 d1) (FieldInfo.PointerArray n2 l2 d2) a b c d a' b' c' d' h = (cc, cc, cc, cc, cc)
kind_one (FieldInfo.PointerArray n1 l1 d1) FieldInfo.FnPointer a b c d a' b' c' d' h = (cc, cc, cc, cc, cc)
kind_one FieldInfo.FnPointer FieldInfo.Value a b c d a' b' c' d' h = (cc, cc, cc, cc, cc)
kind_one FieldInfo.FnPointer (FieldInfo.ValueArray l2 d2) a b c d a' b' c' d' h = (cc, cc, cc, cc, cc)
kind_one FieldInfo.FnPointer (FieldInfo.Pointer n2) a b c d a' b' c' d' h = (cc, cc, cc, cc, cc)
kind_one FieldInfo.FnPointer (FieldInfo.PointerArray n2 l2 d2) a b c d a' b' c' d' h = (cc, cc, cc, cc, cc)
kind_one FieldInfo.FnPointer FieldInfo.FnPointer a b c d a' b' c' d' h = (cc, cc, cc, cc, cc)

whole-declarator : (d e : records.Declarator) → paper_declarator d ≡ paper_declarator e → d ≡ e
whole-declarator d e h =
    let w = kind_one d.kind e.kind _ _ _ _ _ _ _ _ h in
    let n : d.name ≡ e.name = place-one d.name e.name w.1 w.2 in
    let r : d.rest ≡ e.rest = place-one d.rest e.rest w.3 w.4 in
    ap (λ (k : FieldInfo). record { name = d.name; rest = d.rest; kind = k }) w.0
    ∙ ap (λ (p : places.Span). record { name = p; rest = d.rest; kind = e.kind }) n ∙ ap (λ (p : places.Span). record { name = e.name; rest = p; kind = e.kind }) r

-- no declarator is told_as as a refusal
told_apart : (k : FieldInfo) (a b c d n : ℕ) (vs : List ℕ) → paper_kind k (a, b) (c, d) ≡ refuses n vs → ⊥
told_apart FieldInfo.Value a b c d n vs h = let z : ◌≡◌ {A = ℕ} 0 1 = cc in omega arith
told_apart (FieldInfo.ValueArray l1 d1) a b c d n vs h = let z : ◌≡◌ {A = ℕ} 0 1 = cc in omega arith
told_apart (FieldInfo.Pointer n1) a b c d n vs h = let z : ◌≡◌ {A = ℕ} 0 1 = cc in omega arith
told_apart (FieldInfo.PointerArray n1 l1 d1) a b c d n vs h = let z : ◌≡◌ {A = ℕ} 0 1 = cc in omega arith
told_apart FieldInfo.FnPointer a b c d n vs h = let z : ◌≡◌ {A = ℕ} 0 1 = cc in omega arith

pub whole-scanned : (a b : Result records.Declarator Refusal) → paper_scanned a ≡ paper_scanned b → a ≡ b
whole-scanned (Ok x) (Ok y) h = ap Ok (whole-declarator x y h)
whole-scanned (Ok x) (Err q) h = absurd (told_apart x.kind _ _ _ _ _ _ h)
whole-scanned (Err r) (Ok y) h = absurd (told_apart y.kind _ _ _ _ _ _ (sym h))
whole-scanned (Err r) (Err q) h = ap Err (one_refusal r q (cc))

pub whole-field : (a b : Result records.Declarator FieldError) → paper_field a ≡ paper_field b → a ≡ b
whole-field (Ok x) (Ok y) h = ap Ok (whole-declarator x y h)
whole-field (Ok x) (Err (FieldError.Refusal q)) h = absurd (told_apart x.kind _ _ _ _ _ _ h)
whole-field (Ok x) (Err (FieldError.DimensionTableTooShort n)) h = absurd (told_apart x.kind _ _ _ _ _ _ h)
whole-field (Err (FieldError.Refusal r)) (Ok y) h = absurd (told_apart y.kind _ _ _ _ _ _ (sym h))
whole-field (Err (FieldError.Refusal r)) (Err (FieldError.Refusal q)) h = ap (λ (x : Refusal). Err (FieldError.Refusal x)) (one_refusal r q (cc))
whole-field (Err (FieldError.Refusal r)) (Err (FieldError.DimensionTableTooShort n)) h = cc
whole-field (Err (FieldError.DimensionTableTooShort m)) (Ok y) h = absurd (told_apart y.kind _ _ _ _ _ _ (sym h))
whole-field (Err (FieldError.DimensionTableTooShort m)) (Err (FieldError.Refusal q)) h = cc
whole-field (Err (FieldError.DimensionTableTooShort m)) (Err (FieldError.DimensionTableTooShort n)) h = cc

pub whole-function : (a b : Result records.Declarator Fault) → paper_function a ≡ paper_function b → a ≡ b
whole-function (Ok x) (Ok y) h = ap Ok (whole-declarator x y h)
whole-function (Ok x) (Err g) h = absurd (told_apart x.kind _ _ _ _ _ _ h)
whole-function (Err f) (Ok y) h = absurd (told_apart y.kind _ _ _ _ _ _ (sym h))
whole-function (Err f) (Err g) h = ap Err (whole-fault f g h)

pub whole-width : (a b : Result ℕ Refusal) → paper_width a ≡ paper_width b → a ≡ b
whole-width (Ok x) (Ok y) h = cc
whole-width (Ok x) (Err q) h = cc
whole-width (Err r) (Ok y) h = cc
whole-width (Err r) (Err q) h = ap Err (one_refusal r q (cc))
