-- The papers of the answers lose nothing: two answers that are told alike are the same answer.
use Prim.Native.Nat.{ℕ}
use mathlib.Core.Bool.{true, false}
use mathlib.Core.List.{List, [], ◌∷◌}
use mathlib.Core.Path.{◌≡◌, refl, sym, ◌∙◌, ap}
use lib.Dec.{eqb}
use Rattle.std.specs.Prelude.{Result, Ok, Err}
use Rattle.dna.specs.declared.dna.DnaCounts.{DnaCounts}
use Rattle.dna.specs.declared.dna.DnaError.{DnaError}
use Rattle.dna.specs.declared.dna.DnaTable.{DnaTable}
use Rattle.dna.specs.declared.dna.DnaTable.TheVariants.{Names, Types, Structs, Fields}
use Rattle.octets.specs.Paper.Paper.{accepts}
use Rattle.octets.specs.Reader.{Outcome}
use native.Mathlib.Omega.{arith}
use Rattle.octets.specs.declared.Fault.{Fault}
use Rattle.octets.specs.Refusals.{catalogue_table_too_short, paper_fault}
use Rattle.octets.proofs.Lossless.{whole-fault, no-fault, whole-told}
use Rattle.dna.specs.Catalogue.{Dna, Filled, count_numbers, table_number, paper_error, paper_tables, paper_counted, outcome_of}

counts-one : (a b : DnaCounts) → a.names ≡ b.names → a.types ≡ b.types → a.structs ≡ b.structs → a.fields ≡ b.fields → a ≡ b
counts-one a b n t s f =
    ap (λ (x : ℕ). record { names = x; types = a.types; structs = a.structs; fields = a.fields }) n
    ∙ ap (λ (x : ℕ). record { names = b.names; types = x; structs = a.structs; fields = a.fields }) t
    ∙ ap (λ (x : ℕ). record { names = b.names; types = b.types; structs = x; fields = a.fields }) s
    ∙ ap (λ (x : ℕ). record { names = b.names; types = b.types; structs = b.structs; fields = x }) f

-- an error is no counts, and a fault no refusal 8
no_error : (n : DnaCounts) (e : DnaError) → accepts 0 (count_numbers n) ≡ paper_error e → ⊥
no_error n (DnaError.Fault f) h = cc
no_error n (DnaError.TableTooShort which rows) h = cc

no_short : (which rows : ℕ) (x : Fault) → catalogue_table_too_short which rows ≡ paper_fault x → ⊥
no_short which rows x h = no-fault 8 which (rows ∷ []) (omega arith) x h

-- a table is its number: it is the one that the number leads back to
by_number : ℕ → DnaTable
by_number n = elim (eqb n 1) [ true ↦ Names | false ↦ elim (eqb n 2) [ true ↦ Types | false ↦ elim (eqb n 3) [ true ↦ Structs | false ↦ Fields ] ] ]

back : (w : DnaTable) → by_number (table_number w) ≡ w
unfolding by_number
back Names = refl
back Types = refl
back Structs = refl
back Fields = refl

whole-table : (v w : DnaTable) → table_number v ≡ table_number w → v ≡ w
whole-table v w h = sym (back v) ∙ ap by_number h ∙ back w

whole_error : (x y : DnaError) → paper_error x ≡ paper_error y → x ≡ y
whole_error (DnaError.Fault f) (DnaError.Fault g) h = ap DnaError.Fault (whole-fault f g h)
whole_error (DnaError.Fault f) (DnaError.TableTooShort w n) h = absurd (no_short (table_number w) n f (sym h))
whole_error (DnaError.TableTooShort v m) (DnaError.Fault g) h = absurd (no_short (table_number v) m g h)
whole_error (DnaError.TableTooShort v m) (DnaError.TableTooShort w n) h = cc (whole-table v w (cc))

pub whole_tables : (a b : Result DnaCounts DnaError) → paper_tables a ≡ paper_tables b → a ≡ b
whole_tables (Ok x) (Ok y) h = ap Ok (counts-one x y (cc) (cc) (cc) (cc))
whole_tables (Ok x) (Err e) h = absurd (no_error x e h)
whole_tables (Err e) (Ok y) h = absurd (no_error y e (sym h))
whole_tables (Err d) (Err e) h = ap Err (whole_error d e h)

pub whole-counted : (a b : Result (DnaCounts × ℕ) Fault) → outcome_of a ≡ outcome_of b → a ≡ b
whole-counted (Ok (x, m)) (Ok (y, n)) h = cc
whole-counted (Ok (x, m)) (Err g) h = cc
whole-counted (Err f) (Ok (y, n)) h = cc
whole-counted (Err f) (Err g) h = cc

one-counts : (a b : DnaCounts) → count_numbers a ≡ count_numbers b → a ≡ b
one-counts a b h = counts-one a b (cc) (cc) (cc) (cc)

pub paper_counted_lem : (a b : Result (DnaCounts × ℕ) Fault) → paper_counted a ≡ paper_counted b → a ≡ b
paper_counted_lem a b h = whole-counted a b (whole-told count_numbers one-counts (outcome_of a) (outcome_of b) h)

-- `dna` has one answer, and each table one content afterwards
pub one_filling : (o : Outcome Dna) (r q : Result DnaCounts DnaError) (names types structs fields n₁ t₁ s₁ f₁ n₂ t₂ s₂ f₂ : List ℕ)
    → Filled o r names types structs fields n₁ t₁ s₁ f₁ → Filled o q names types structs fields n₂ t₂ s₂ f₂
    → (r ≡ q) × (n₁ ≡ n₂) × (t₁ ≡ t₂) × (s₁ ≡ s₂) × (f₁ ≡ f₂)
one_filling o r q names types structs fields n₁ t₁ s₁ f₁ n₂ t₂ s₂ f₂ a b =
    (whole_tables r q (a.answer ∙ sym b.answer), a.in_names ∙ sym b.in_names, a.in_types ∙ sym b.in_types, a.in_structs ∙ sym b.in_structs, a.in_fields ∙ sym b.in_fields)
