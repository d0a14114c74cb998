-- What each public call promises, by its name (crates/octets/specs/Calls.antt says how to read it).
use Rattle.std.specs.Prelude.{ℕ, List, ◌≡◌, Option, Result}
use Rattle.octets.specs.declared.Endianness.{Endianness}
use Rattle.octets.specs.declared.Fault.{Fault}
use Rattle.octets.specs.declared.PointerSize.{PointerSize}
use Rattle.octets.specs.declared.cursor.Cursor.{Cursor}
use Rattle.octets.specs.Cursor.{found}
use Rattle.octets.specs.Reader.{run}
use Rattle.octets.specs.Reader.Reader.{done, bytes}
use Rattle.header.specs.declared.FileFormat.{FileFormat}
use Rattle.header.specs.declared.Version.{Version}
use Rattle.header.specs.declared.Header.{Header}
use Rattle.header.specs.Header.{header_length, pointer_mark, order_mark, version_of, header_bytes, valued, header_as, paper_header, fault_of}
use Rattle.header.specs.Layout.{block_header_length}

abbrev pub FileFormat::header_len : (self : FileFormat) → ℕ → Type 0
FileFormat::header_len self r = r ≡ header_length self

abbrev pub FileFormat::block_header_len : (self : FileFormat) (pointer_size : PointerSize) → ℕ → Type 0
FileFormat::block_header_len self pointer_size r = r ≡ block_header_length self pointer_size

abbrev pub «Header::new» : (pointer_size : PointerSize) (endianness : Endianness) (version : Version) (format : FileFormat) → Header → Type 0
«Header::new» pointer_size endianness version format r = r ≡ record { pointer_size = pointer_size; endianness = endianness; version = version; format = format }

abbrev pub blend::pointer_size : (c : Cursor) (s : List ℕ) → Result (PointerSize × Cursor) Fault → Type 0
blend::pointer_size c s r = found r ≡ run (pointer_mark done) s c.at

abbrev pub «blend::endianness» : (c : Cursor) (s : List ℕ) → Result (Endianness × Cursor) Fault → Type 0
«blend::endianness» c s r = found r ≡ run (order_mark done) s c.at

abbrev pub «blend::version» : (c : Cursor) (s : List ℕ) → Result (Version × Cursor) Fault → Type 0
«blend::version» c s r = found r ≡ run (bytes 3 (λ v. done (version_of v))) s c.at

abbrev pub «blend::header» : (file : List ℕ) → Result (Header × ℕ) Fault → Type 0
«blend::header» file r = paper_header r ≡ header_as (valued (run header_bytes file 0))

abbrev pub blend::refusal_of : (answer : Result (Header × ℕ) Fault) → Option Fault → Type 0
blend::refusal_of answer r = r ≡ fault_of answer
