-- What each public call promises, by its name: src/ ensures it, and crates/promises ties it to the code. A slice stands for the bytes that it holds, `self` and the
-- other parameters for themselves, and r for the answer.
use Rattle.std.specs.Prelude.{ℕ, Bool, true, false, List, ◌≡◌, Option, Result}
use Rattle.octets.specs.declared.Endianness.{Endianness}
use Rattle.octets.specs.declared.PointerSize.{PointerSize}
use Rattle.octets.specs.declared.Refusal.{Refusal}
use Rattle.octets.specs.declared.Fault.{Fault}
use Rattle.octets.specs.declared.cursor.Width.{Width}
use Rattle.octets.specs.declared.cursor.Cursor.{Cursor}
use Rattle.octets.specs.Cursor.{width_of, found, moved, begun, part_of}
use Rattle.octets.specs.Number.{number, tag}
use Rattle.octets.specs.PointerSize.{pointer_bytes}
use Rattle.octets.specs.Refusals.{number_of, refusal_of, place_of}
use Rattle.octets.specs.Reader.{run, string, before, stands}
use Rattle.octets.specs.Reader.Reader.{done, bytes, skip, until, begins}

abbrev pub PointerSize::bytes_num : (self : PointerSize) → ℕ → Type 0
PointerSize::bytes_num self r = r ≡ pointer_bytes self

abbrev pub «Refusal::number» : (self : Refusal) → ℕ → Type 0
«Refusal::number» self r = r ≡ number_of self

abbrev pub Refusal::of_number : (number : ℕ) → Refusal → Type 0
Refusal::of_number number r = number_of r ≡ number

abbrev pub «Fault::refusal» : (self : Fault) → ℕ → Type 0
«Fault::refusal» self r = r ≡ refusal_of self

abbrev pub «Fault::place» : (self : Fault) → ℕ → Type 0
«Fault::place» self r = r ≡ place_of self

abbrev pub cursor::Width::bytes_num : (self : Width) → ℕ → Type 0
cursor::Width::bytes_num self r = r ≡ width_of self

abbrev pub cursor::stands_at : (s : List ℕ) (at : ℕ) (m : List ℕ) → Bool → Type 0
cursor::stands_at s at m r = r ≡ stands s at m

abbrev pub «cursor::before» : (s : List ℕ) (c : ℕ) → ℕ → Type 0
«cursor::before» s c r = r ≡ before c s

abbrev pub «cursor::Cursor::new» : (at : ℕ) → Cursor → Type 0
«cursor::Cursor::new» at r = r.at ≡ at

abbrev pub «cursor::Cursor::number» : (self : Cursor) (s : List ℕ) (width : Width) (order : Endianness) → Result (ℕ × Cursor) Fault → Type 0
«cursor::Cursor::number» self s width order r = found r ≡ run (number order (width_of width) done) s self.at

abbrev pub «cursor::Cursor::skip» : (self : Cursor) (s : List ℕ) (n : ℕ) → Result Cursor Fault → Type 0
«cursor::Cursor::skip» self s n r = moved r ≡ run (skip n (done tt)) s self.at

abbrev pub «cursor::Cursor::bytes» : (self : Cursor) (s : List ℕ) (n : ℕ) → Result Cursor Fault → Type 0
«cursor::Cursor::bytes» self s n r = moved r ≡ run (bytes n (λ b. done tt)) s self.at

abbrev pub «cursor::Cursor::part» : (self : Cursor) (s : List ℕ) (n : ℕ) → List ℕ → Type 0
«cursor::Cursor::part» self s n r = r ≡ part_of s self.at n

abbrev pub «cursor::Cursor::mark» : (self : Cursor) (s m : List ℕ) → Result Cursor Fault → Type 0
«cursor::Cursor::mark» self s m r = moved r ≡ run (tag m (done tt)) s self.at

abbrev pub «cursor::Cursor::begins» : (self : Cursor) (s m : List ℕ) → Option Cursor → Type 0
«cursor::Cursor::begins» self s m r = begun self r ≡ run (begins m (done true) (done false)) s self.at

abbrev pub «cursor::Cursor::until» : (self : Cursor) (s : List ℕ) (c : ℕ) → Result (ℕ × Cursor) Fault → Type 0
«cursor::Cursor::until» self s c r = found r ≡ run (until c done) s self.at

abbrev pub «cursor::Cursor::string» : (self : Cursor) (s : List ℕ) → Result (ℕ × Cursor) Fault → Type 0
«cursor::Cursor::string» self s r = found r ≡ run (string done) s self.at
