-- Broken names have no width, and whole ones the width that they had; for other languages too.
use Rattle.std.specs.Prelude.{Result, Ok, Err}
use Prim.Native.Nat.{ℕ}
use mathlib.Core.List.{List, []}
use mathlib.Core.Path.{◌≡◌, refl, sym, ◌∙◌, ap, subst}
use native.Mathlib.Omega.{arith}
use borrow.Author.Tests.{le-ltb}
use lib.ListN.{length}
use Rattle.octets.specs.Ascii.{ascii}
use Rattle.octets.specs.Paper.Paper.{refuses}
use Rattle.octets.specs.Reader.{run}
use Rattle.octets.proofs.Tests.{failed}
use Rattle.field.specs.declared.field.FieldError.{FieldError}
use Rattle.field.specs.declared.field.Declarator.{Declarator}
use Rattle.field.specs.Declarators.{function_pointer, taken, groups, spanned, digits, decimal, numbers, product, pointer_or_value, declared, parsed_as, paper_field}
use Rattle.field.proofs.Examples.{broken}
use Rattle.field.proofs.Lossless.{whole-field}
use Rattle.field.proofs.Refusing.{not_zero}
use Rattle.field.proofs.Widths.{as_former, no-width}
use Rattle.exports.specs.declared.BlendField.{BlendField}
use Rattle.exports.specs.Exports.{field_out, size_of, value_out}
use Rattle.exports.proofs.Widths.{back, width_told_lem, width-refused}
use Rattle.demands.specs.Sentences.{BrokenNames, StandsFor, WidthsExported}

-- what "mat[4" says, with a table of any length
broken-read : (t : List ℕ) → parsed_as (declared (ascii "mat[4")) (length t) ≡ paper_field (Ok broken)
unfolding run declared function_pointer pointer_or_value groups taken spanned numbers decimal digits product broken
broken-read t = failed _ _ (le-ltb (length t) 0 (omega arith))

pub broken-names : BrokenNames
unfolding broken
broken-names =
    record {
      whole = λ d size p r h e. h ∙ as_former d size p e;
      broken = λ d size p r h e. h ∙ no-width d size p e;
      example = λ t u q h. (broken, whole-field q (Ok broken) (h.0 ∙ broken-read t), λ size p r k. k ∙ no-width broken size p (λ e. omega arith));
    }

-- what was told of a name, by what was read in it
by_answer : (name : List ℕ) (room : ℕ) (q : Result Declarator FieldError) → paper_field q ≡ parsed_as (declared name) room → StandsFor (field_out (paper_field q)) q
by_answer name room (Ok d) e = back d
by_answer name room (Err (FieldError.Refusal r)) e = (refl, λ z. not_zero (declared name) room [] (ap (λ (m : ℕ). refuses m []) (sym z) ∙ e))
by_answer name room (Err (FieldError.DimensionTableTooShort n)) e = (refl, refl)

pub widths_exported : WidthsExported
widths_exported =
    record {
      told = λ name t t' u f q hf hq.
          let e : field_out (paper_field q) ≡ f = ap field_out hq.0 ∙ sym hf.0 in
          subst (λ (g : BlendField). StandsFor g q) e (by_answer name (length t) q hq.0);
      of-told = λ f size bytes w r h k e. h ∙ ap value_out (width_told_lem f size (size_of bytes) e ∙ sym k);
      of-refused = λ f size bytes w h e. h ∙ ap value_out (width-refused f size (size_of bytes) e);
    }
