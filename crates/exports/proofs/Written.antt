-- The header that numbers stand for: those of a header for that header, others for one that no form has room for.
use Prim.Native.Nat.{ℕ, ◌≤◌, ◌<◌}
use mathlib.Core.Bool.{Bool, true, false, ◌&&◌, ◌||◌}
use mathlib.Core.Path.{◌≡◌, refl, ◌∙◌, ap}
use lib.Dec.{eqb, leb, ltb}
use native.Mathlib.Omega.{arith}
use borrow.Author.Tests.{eq-eqb, ne_eqb, le-leb, lt-leb, ltb-false, le-ltb}
use Rattle.octets.specs.declared.Endianness.{Endianness}
use Rattle.octets.specs.declared.Endianness.TheVariants.{Little, Big}
use Rattle.octets.specs.declared.PointerSize.{PointerSize}
use Rattle.octets.specs.declared.PointerSize.TheVariants.{Bits32, Bits64}
use Rattle.octets.specs.PointerSize.{pointer_bytes}
use Rattle.octets.proofs.Tests.{held, failed}
use Rattle.header.specs.declared.FileFormat.{FileFormat}
use Rattle.header.specs.declared.FileFormat.TheVariants.{Legacy, New}
use Rattle.header.specs.declared.Header.{Header}
use Rattle.header.specs.declared.Version.{Version}
use Rattle.header.specs.Header.{edition, order}
use Rattle.header.specs.HeaderOut.{marks_fit, header_fits}
use Rattle.exports.specs.Exports.{order_of, size_of, format_of, is_form, capped, version_of, header_of}

-- whether numbers stand for a form, one test after another
module _ (e b o : ℕ) where
  pub no-edition : 1 < e → is_form e b o ≡ false
  no-edition h = ap (λ (t : Bool). t && leb o 1 && (eqb b 4 || eqb b 8)) (lt-leb _ _ h)

  some-edition : e ≤ 1 → is_form e b o ≡ (leb o 1 && (eqb b 4 || eqb b 8))
  some-edition h = ap (λ (t : Bool). t && leb o 1 && (eqb b 4 || eqb b 8)) (le-leb _ _ h)

  pub no-order : e ≤ 1 → 1 < o → is_form e b o ≡ false
  no-order h k = some-edition h ∙ ap (λ (t : Bool). t && (eqb b 4 || eqb b 8)) (lt-leb _ _ k)

  some-order : e ≤ 1 → o ≤ 1 → is_form e b o ≡ (eqb b 4 || eqb b 8)
  some-order h k = some-edition h ∙ ap (λ (t : Bool). t && (eqb b 4 || eqb b 8)) (le-leb _ _ k)

  pub four : e ≤ 1 → o ≤ 1 → b ≡ 4 → is_form e b o ≡ true
  four h k f = some-order h k ∙ ap (λ (t : Bool). t || eqb b 8) (eq-eqb _ _ f)

  pub not_four : e ≤ 1 → o ≤ 1 → (b ≡ 4 → ⊥) → is_form e b o ≡ eqb b 8
  not_four h k f = some-order h k ∙ ap (λ (t : Bool). t || eqb b 8) (ne_eqb _ _ f)

-- the numbers of a header stand for it
as_it_was : (n : ℕ) → n ≤ 65535 → capped n ≡ n
as_it_was n h = by (ltb n 65535) refl
  where
    by : (b : Bool) → ltb n 65535 ≡ b → capped n ≡ n
    by true e = held _ _ e
    by false e = failed _ _ e ∙ omega (arith, h, ltb-false n 65535 e)

pub back : (h : Header) → h.version.major ≤ 65535 → h.version.minor ≤ 65535
    → header_of (edition h.format) (pointer_bytes h.pointer_size) (order h.endianness) h.version.major h.version.minor ≡ h
back h j n = by h.format h.pointer_size h.endianness
  where
    same : version_of true h.version.major h.version.minor ≡ h.version
    same = rw (as_it_was _ j, as_it_was _ n) refl

    by : (f : FileFormat) (p : PointerSize) (e : Endianness) → header_of (edition f) (pointer_bytes p) (order e) h.version.major h.version.minor ≡ record { pointer_size = p; endianness = e; version = h.version; format = f }
    by Legacy Bits32 Little = rw same refl
    by Legacy Bits32 Big = rw same refl
    by Legacy Bits64 Little = rw same refl
    by Legacy Bits64 Big = rw same refl
    by New Bits32 Little = rw same refl
    by New Bits32 Big = rw same refl
    by New Bits64 Little = rw same refl
    by New Bits64 Big = rw same refl

-- numbers that stand for no header: no form has room for them
neither : (b : Bool) → (b && false) ≡ false
neither true = refl
neither false = refl

module _ (p : PointerSize) (e : Endianness) where
  abbrev of : FileFormat → Version → Header
  of f v = record { pointer_size = p; endianness = e; version = v; format = f }

  major_large : (f : FileFormat) (minor : ℕ) → header_fits (of f (record { major = 65535; minor = minor })) ≡ false
  major_large Legacy minor = refl
  major_large New minor = refl

  minor_large : (f : FileFormat) (major : ℕ) → header_fits (of f (record { major = major; minor = 65535 })) ≡ false
  minor_large Legacy major = neither (leb major 9)
  minor_large New major = ap (λ (b : Bool). b && marks_fit p e) (neither (leb major 99))

module _ (e b o major minor : ℕ) where
  abbrev by_form : Bool → Header
  by_form t = of (size_of b) (order_of o) (format_of e) (version_of t major minor)

  pub no_form : is_form e b o ≡ false → header_fits (header_of e b o major minor) ≡ false
  no_form h = ap (λ (t : Bool). header_fits (by_form t)) h ∙ major_large (size_of b) (order_of o) (format_of e) 65535

  pub no_major : 65535 < major → header_fits (header_of e b o major minor) ≡ false
  no_major h = by (is_form e b o)
    where
      by : (t : Bool) → header_fits (by_form t) ≡ false
      by true = rw (failed major 65535 (le-ltb major 65535 (omega (arith, h)))) (major_large (size_of b) (order_of o) (format_of e) (capped minor))
      by false = major_large (size_of b) (order_of o) (format_of e) 65535

  pub no_minor : 65535 < minor → header_fits (header_of e b o major minor) ≡ false
  no_minor h = by (is_form e b o)
    where
      by : (t : Bool) → header_fits (by_form t) ≡ false
      by true = rw (failed minor 65535 (le-ltb minor 65535 (omega (arith, h)))) (minor_large (size_of b) (order_of o) (format_of e) (capped major))
      by false = major_large (size_of b) (order_of o) (format_of e) 65535
