-- What each public call promises, by its name (crates/octets/specs/Calls.antt says how to read it).
use Rattle.std.specs.Prelude.{ℕ, Bool, List, ◌≡◌, Result}
use Rattle.octets.specs.declared.Endianness.{Endianness}
use Rattle.octets.specs.declared.cursor.Cursor.{Cursor}
use Rattle.octets.specs.declared.Fault.{Fault}
use Rattle.octets.specs.Cursor.{found}
use Rattle.octets.specs.Number.{number}
use Rattle.octets.specs.Reader.{run}
use Rattle.octets.specs.Reader.Reader.{done}
use Rattle.header.specs.declared.Header.{Header}
use Rattle.block.specs.declared.BlockHeader.{BlockHeader}
use Rattle.block.specs.declared.Kind.{Kind}
use Rattle.block.specs.declared.Takes.{Takes}
use Rattle.block.specs.declared.About.{About}
use Rattle.block.specs.Kinds.{kind_of, paper_kind, about}
use Rattle.block.specs.BlockHeaders.{block_header, header_in}

abbrev pub «BlockHeader::new» : (code size address index count : ℕ) → BlockHeader → Type 0
«BlockHeader::new» code size address index count r = r ≡ record { code = code; size = size; address = address; index = index; count = count }

abbrev pub Kind::of_code : (code : ℕ) → Kind → Type 0
Kind::of_code code r = paper_kind r ≡ paper_kind (kind_of code)

abbrev pub «About::new» : (takes : Takes) (found coded dna : Bool) → About → Type 0
«About::new» takes found coded dna r = r ≡ record { takes = takes; found = found; coded = coded; dna = dna }

abbrev pub «Kind::about» : (self : Kind) → About → Type 0
«Kind::about» self r = r ≡ about self

abbrev pub blend::block_header_code : (c : Cursor) (s : List ℕ) → Result (ℕ × Cursor) Fault → Type 0
blend::block_header_code c s r = found r ≡ run (number Endianness.Big 4 done) s c.at

abbrev pub blend::block_header : (c : Cursor) (s : List ℕ) (h : Header) → Result (BlockHeader × Cursor) Fault → Type 0
blend::block_header c s h r = found r ≡ run (block_header h) s c.at

abbrev pub blend::header_in : (part : List ℕ) (h : Header) → BlockHeader → Type 0
blend::header_in part h r = r ≡ header_in h part
