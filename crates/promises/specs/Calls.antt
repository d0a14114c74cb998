-- Every public call of the libraries: by its name, with its signature, its code and its contract, which is the one that src/ ensures
-- (crates/NAME/specs/Calls.antt; for an impl of From, its `from_gives`). tests/public-calls fails where a public function is none of these.
use Rattle.std.specs.Prelude.{ℕ, List, ◌≡◌}
use Rattle.octets.specs.declared.Fault.{Fault}
use Rattle.octets.specs.Paper.{Paper}
use Rattle.octets.specs.Paper.Paper.{refuses}
use Rattle.octets.specs.Calls.{«Refusal::number», Refusal::of_number, «Fault::refusal», «Fault::place», PointerSize::bytes_num, cursor::Width::bytes_num, cursor::stands_at, «cursor::before», «cursor::Cursor::new», «cursor::Cursor::number», «cursor::Cursor::skip», «cursor::Cursor::bytes», «cursor::Cursor::part», «cursor::Cursor::mark», «cursor::Cursor::begins», «cursor::Cursor::until», «cursor::Cursor::string»}
use Rattle.primitive.specs.Calls.{primitive::parse_u8, primitive::parse_u16, primitive::parse_u32, primitive::parse_u64, primitive::parse_char, primitive::parse_i8, primitive::parse_i16, primitive::parse_i32, primitive::parse_i64, primitive::parse_f32, primitive::parse_f64, primitive::blender_name_char, primitive::blender_name_i8, primitive::blender_name_u8, primitive::blender_name_u16, primitive::blender_name_i16, primitive::blender_name_i32, primitive::blender_name_u32, primitive::blender_name_f32, primitive::blender_name_f64, primitive::blender_name_u64, primitive::blender_name_i64}
use Rattle.field.specs.Calls.{field::fn_pointer, field::scan_field, field::parse_field, «field::width»}
use Rattle.dna.specs.Calls.{«dna::DnaTable::number», dna::dna_counts, «dna::dna»}
use Rattle.header.specs.Calls.{FileFormat::header_len, FileFormat::block_header_len, «Header::new», blend::pointer_size, «blend::endianness», «blend::version», «blend::header», blend::refusal_of}
use Rattle.block.specs.Calls.{«BlockHeader::new», Kind::of_code, «About::new», «Kind::about», blend::block_header_code, blend::block_header, blend::header_in}
use Rattle.blend.specs.Calls.{blend::boundary_at, «blend::blend»}
use Rattle.walker.specs.Calls.{«Place::start», «Place::step»}
use Rattle.runtime.specs.Calls.{«runtime::view», runtime::view_part, «runtime::matches», runtime::get_ptr, «runtime::code»}
use Rattle.index.specs.Calls.{«index::build», «index::find»}
use Rattle.writable.specs.Calls.{writable::row_at, writable::bytes_needed}
use Rattle.writer.specs.Calls.{«writer::write»}
use Rattle.held.specs.Calls.{step_at, «over», «next», «moved», step_from, row_is, find_row, find_in}
use Rattle.exports.specs.Calls.{blend_header, blend_read, blend_step, blend_catalogue, blend_field, blend_width, blend_view, blend_lookup, blend_index, blend_find, blend_write, blend_u8, blend_u16, blend_u32, blend_u64}
use Rattle.demands.specs.Calls.{«read», read_two}
use Rattle.field.specs.declared.field.FieldError.{FieldError}
use Rattle.dna.specs.declared.dna.DnaError.{DnaError}
use Rattle.blend.specs.declared.blend.BlendError.{BlendError}
use Rattle.writable.specs.declared.writable.WritableError.{WritableError}
use Rattle.writer.specs.declared.writer.WriteError.{WriteError}
use Rattle.field.specs.Declarators.{paper_field}
use Rattle.dna.specs.Catalogue.{paper_tables}
use Rattle.blend.specs.Chain.{paper_blend}
use Rattle.index.specs.Index.{paper_indexed}
use Rattle.writer.specs.Writer.{paper_write}
use Rattle.octets.proofs as octets
use Rattle.octets.specs.contracts as octets_contracts
use Rattle.primitive.proofs as primitive
use Rattle.primitive.specs.contracts as primitive_contracts
use Rattle.field.proofs as field
use Rattle.field.specs.contracts as field_contracts
use Rattle.dna.proofs as dna
use Rattle.dna.specs.contracts as dna_contracts
use Rattle.header.proofs as header
use Rattle.header.specs.contracts as header_contracts
use Rattle.block.proofs as block
use Rattle.block.specs.contracts as block_contracts
use Rattle.blend.proofs as blend
use Rattle.blend.specs.contracts as blend_contracts
use Rattle.walker.proofs as walker
use Rattle.walker.specs.contracts as walker_contracts
use Rattle.runtime.proofs as runtime
use Rattle.runtime.specs.contracts as runtime_contracts
use Rattle.index.proofs as index
use Rattle.index.specs.contracts as index_contracts
use Rattle.writable.proofs as writable
use Rattle.writable.specs.contracts as writable_contracts
use Rattle.writer.proofs as writer
use Rattle.writer.specs.contracts as writer_contracts
use Rattle.held.proofs as held
use Rattle.held.specs.contracts as held_contracts
use Rattle.exports.proofs as exports
use Rattle.exports.specs.contracts as exports_contracts
use Rattle.demands.proofs as demands
use Rattle.demands.specs.contracts as demands_contracts
use mir.Syntax.{fn₀}
use Rattle.promises.specs.Keeps.{Public, code_of}
use Rattle.promises.specs.Keeps.Public.{call, shows, lends}

pub data PublicCall : Type 0 where
  octets::PointerSize::bytes_num : PublicCall
  «octets::Refusal::number» : PublicCall
  octets::Refusal::of_number : PublicCall
  «octets::Fault::refusal» : PublicCall
  «octets::Fault::place» : PublicCall
  «octets::FaultFromRefusal::from» : PublicCall
  octets::cursor::Width::bytes_num : PublicCall
  octets::cursor::stands_at : PublicCall
  «octets::cursor::before» : PublicCall
  «octets::cursor::Cursor::new» : PublicCall
  «octets::cursor::Cursor::number» : PublicCall
  «octets::cursor::Cursor::skip» : PublicCall
  «octets::cursor::Cursor::bytes» : PublicCall
  «octets::cursor::Cursor::part» : PublicCall
  «octets::cursor::Cursor::mark» : PublicCall
  «octets::cursor::Cursor::begins» : PublicCall
  «octets::cursor::Cursor::until» : PublicCall
  «octets::cursor::Cursor::string» : PublicCall
  primitive::primitive::parse_u8 : PublicCall
  primitive::primitive::parse_u16 : PublicCall
  primitive::primitive::parse_u32 : PublicCall
  primitive::primitive::parse_u64 : PublicCall
  primitive::primitive::parse_char : PublicCall
  primitive::primitive::parse_i8 : PublicCall
  primitive::primitive::parse_i16 : PublicCall
  primitive::primitive::parse_i32 : PublicCall
  primitive::primitive::parse_i64 : PublicCall
  primitive::primitive::parse_f32 : PublicCall
  primitive::primitive::parse_f64 : PublicCall
  primitive::primitive::blender_name_char : PublicCall
  primitive::primitive::blender_name_i8 : PublicCall
  primitive::primitive::blender_name_u8 : PublicCall
  primitive::primitive::blender_name_u16 : PublicCall
  primitive::primitive::blender_name_i16 : PublicCall
  primitive::primitive::blender_name_i32 : PublicCall
  primitive::primitive::blender_name_u32 : PublicCall
  primitive::primitive::blender_name_f32 : PublicCall
  primitive::primitive::blender_name_f64 : PublicCall
  primitive::primitive::blender_name_u64 : PublicCall
  primitive::primitive::blender_name_i64 : PublicCall
  field::field::fn_pointer : PublicCall
  field::field::scan_field : PublicCall
  field::field::parse_field : PublicCall
  «field::field::width» : PublicCall
  «field::field::FieldErrorFromRefusal::from» : PublicCall
  «dna::dna::DnaTable::number» : PublicCall
  dna::dna::dna_counts : PublicCall
  «dna::dna::dna» : PublicCall
  «dna::dna::DnaErrorFromFault::from» : PublicCall
  header::FileFormat::header_len : PublicCall
  header::FileFormat::block_header_len : PublicCall
  «header::Header::new» : PublicCall
  «block::BlockHeader::new» : PublicCall
  block::Kind::of_code : PublicCall
  «block::About::new» : PublicCall
  «block::Kind::about» : PublicCall
  header::blend::pointer_size : PublicCall
  «header::blend::endianness» : PublicCall
  «header::blend::version» : PublicCall
  «header::blend::header» : PublicCall
  header::blend::refusal_of : PublicCall
  block::blend::block_header_code : PublicCall
  block::blend::block_header : PublicCall
  block::blend::header_in : PublicCall
  blend::blend::boundary_at : PublicCall
  «blend::blend::blend» : PublicCall
  «blend::blend::BlendErrorFromFault::from» : PublicCall
  «walker::Place::start» : PublicCall
  «walker::Place::step» : PublicCall
  «runtime::runtime::view» : PublicCall
  runtime::runtime::view_part : PublicCall
  «runtime::runtime::matches» : PublicCall
  runtime::runtime::get_ptr : PublicCall
  «runtime::runtime::code» : PublicCall
  «index::index::build» : PublicCall
  «index::index::find» : PublicCall
  writable::writable::row_at : PublicCall
  writable::writable::bytes_needed : PublicCall
  «writable::writable::WritableErrorFromFault::from» : PublicCall
  «writer::writer::write» : PublicCall
  «writer::writer::WriteErrorFromWritableError::from» : PublicCall
  held::step_at : PublicCall
  «held::over» : PublicCall
  «held::next» : PublicCall
  «held::moved» : PublicCall
  held::step_from : PublicCall
  held::row_is : PublicCall
  held::find_row : PublicCall
  held::find_in : PublicCall
  exports::blend_header : PublicCall
  exports::blend_read : PublicCall
  exports::blend_step : PublicCall
  exports::blend_catalogue : PublicCall
  exports::blend_field : PublicCall
  exports::blend_width : PublicCall
  exports::blend_view : PublicCall
  exports::blend_lookup : PublicCall
  exports::blend_index : PublicCall
  exports::blend_find : PublicCall
  exports::blend_write : PublicCall
  exports::blend_u8 : PublicCall
  exports::blend_u16 : PublicCall
  exports::blend_u32 : PublicCall
  exports::blend_u64 : PublicCall
  «demands::read» : PublicCall
  demands::read_two : PublicCall

-- an answer that is told as a refusal, with its number and what it carries; and the same of a struct's number
abbrev pub Refused : Paper → Type 0
Refused p = (number : ℕ) × (carries : List ℕ) × (p ≡ refuses number carries)

abbrev pub Nonzero : ℕ → Type 0
Nonzero n = n ≡ 0 → ⊥

abbrev pub public_call : PublicCall → Public
public_call octets::PointerSize::bytes_num = call octets_contracts.PointerSize.bytes_num.ended (fn₀ "octets::PointerSize::bytes_num") (code_of _ (λ M. octets.PointerSize.bytes_num.Met.met {M = M})) (λ κs (self, _) r e. PointerSize::bytes_num self r)
public_call «octets::Refusal::number» = call octets_contracts.Refusal.number.ended (fn₀ "octets::Refusal::number") (code_of _ (λ M. octets.Refusal.number.Met.met {M = M})) (λ κs (self, _) r e. «Refusal::number» self r)
public_call octets::Refusal::of_number = call octets_contracts.Refusal.of_number.ended (fn₀ "octets::Refusal::of_number") (code_of _ (λ M. octets.Refusal.of_number.Met.met {M = M})) (λ κs (number, _) r e. Refusal::of_number number r)
public_call «octets::Fault::refusal» = call octets_contracts.Fault.refusal.ended (fn₀ "octets::Fault::refusal") (code_of _ (λ M. octets.Fault.refusal.Met.met {M = M})) (λ κs (self, _) r e. «Fault::refusal» self r)
public_call «octets::Fault::place» = call octets_contracts.Fault.place.ended (fn₀ "octets::Fault::place") (code_of _ (λ M. octets.Fault.place.Met.met {M = M})) (λ κs (self, _) r e. «Fault::place» self r)
public_call «octets::FaultFromRefusal::from» = call octets_contracts.FaultFromRefusal.from.ended (fn₀ "octets::FaultFromRefusal::from") (code_of _ (λ M. octets.FaultFromRefusal.from.Met.met {M = M})) (λ κs (value, _) r e. r ≡ Fault.Refusal value)
public_call octets::cursor::Width::bytes_num = call octets_contracts.cursor.Width.bytes_num.ended (fn₀ "octets::cursor::Width::bytes_num") (code_of _ (λ M. octets.cursor.Width.bytes_num.Met.met {M = M})) (λ κs (self, _) r e. cursor::Width::bytes_num self r)
public_call octets::cursor::stands_at = call octets_contracts.cursor.stands_at.ended (fn₀ "octets::cursor::stands_at") (code_of _ (λ M. octets.cursor.stands_at.Met.met {M = M})) (λ κs (s, (at, (m, _))) r e. cursor::stands_at s.now at m.now r)
public_call «octets::cursor::before» = call octets_contracts.cursor.before.ended (fn₀ "octets::cursor::before") (code_of _ (λ M. octets.cursor.before.Met.met {M = M})) (λ κs (s, (c, _)) r e. «cursor::before» s.now c r)
public_call «octets::cursor::Cursor::new» = call octets_contracts.cursor.Cursor.new.ended (fn₀ "octets::cursor::Cursor::new") (code_of _ (λ M. octets.cursor.Cursor.new.Met.met {M = M})) (λ κs (at, _) r e. «cursor::Cursor::new» at r)
public_call «octets::cursor::Cursor::number» = call octets_contracts.cursor.Cursor.number.ended (fn₀ "octets::cursor::Cursor::number") (code_of _ (λ M. octets.cursor.Cursor.number.Met.met {M = M})) (λ κs (self, (s, (width, (order, _)))) r e. «cursor::Cursor::number» self s.now width order r)
public_call «octets::cursor::Cursor::skip» = call octets_contracts.cursor.Cursor.skip.ended (fn₀ "octets::cursor::Cursor::skip") (code_of _ (λ M. octets.cursor.Cursor.skip.Met.met {M = M})) (λ κs (self, (s, (n, _))) r e. «cursor::Cursor::skip» self s.now n r)
public_call «octets::cursor::Cursor::bytes» = call octets_contracts.cursor.Cursor.bytes.ended (fn₀ "octets::cursor::Cursor::bytes") (code_of _ (λ M. octets.cursor.Cursor.bytes.Met.met {M = M})) (λ κs (self, (s, (n, _))) r e. «cursor::Cursor::bytes» self s.now n r)
public_call «octets::cursor::Cursor::part» = shows octets_contracts.cursor.Cursor.part.ended (fn₀ "octets::cursor::Cursor::part") (code_of _ (λ M. octets.cursor.Cursor.part.Met.met {M = M})) (λ κs r. r.now) (λ κs (self, (s, (n, _))) r e. «cursor::Cursor::part» self s.now n r.now)
public_call «octets::cursor::Cursor::mark» = call octets_contracts.cursor.Cursor.mark.ended (fn₀ "octets::cursor::Cursor::mark") (code_of _ (λ M. octets.cursor.Cursor.mark.Met.met {M = M})) (λ κs (self, (s, (m, _))) r e. «cursor::Cursor::mark» self s.now m.now r)
public_call «octets::cursor::Cursor::begins» = call octets_contracts.cursor.Cursor.begins.ended (fn₀ "octets::cursor::Cursor::begins") (code_of _ (λ M. octets.cursor.Cursor.begins.Met.met {M = M})) (λ κs (self, (s, (m, _))) r e. «cursor::Cursor::begins» self s.now m.now r)
public_call «octets::cursor::Cursor::until» = call octets_contracts.cursor.Cursor.until.ended (fn₀ "octets::cursor::Cursor::until") (code_of _ (λ M. octets.cursor.Cursor.until.Met.met {M = M})) (λ κs (self, (s, (c, _))) r e. «cursor::Cursor::until» self s.now c r)
public_call «octets::cursor::Cursor::string» = call octets_contracts.cursor.Cursor.string.ended (fn₀ "octets::cursor::Cursor::string") (code_of _ (λ M. octets.cursor.Cursor.string.Met.met {M = M})) (λ κs (self, (s, _)) r e. «cursor::Cursor::string» self s.now r)
public_call primitive::primitive::parse_u8 = call primitive_contracts.primitive.parse_u8.ended (fn₀ "primitive::primitive::parse_u8") (code_of _ (λ M. primitive.primitive.parse_u8.Met.met {M = M})) (λ κs (slice, (endianness, _)) r e. primitive::parse_u8 slice.now endianness r)
public_call primitive::primitive::parse_u16 = call primitive_contracts.primitive.parse_u16.ended (fn₀ "primitive::primitive::parse_u16") (code_of _ (λ M. primitive.primitive.parse_u16.Met.met {M = M})) (λ κs (slice, (endianness, _)) r e. primitive::parse_u16 slice.now endianness r)
public_call primitive::primitive::parse_u32 = call primitive_contracts.primitive.parse_u32.ended (fn₀ "primitive::primitive::parse_u32") (code_of _ (λ M. primitive.primitive.parse_u32.Met.met {M = M})) (λ κs (slice, (endianness, _)) r e. primitive::parse_u32 slice.now endianness r)
public_call primitive::primitive::parse_u64 = call primitive_contracts.primitive.parse_u64.ended (fn₀ "primitive::primitive::parse_u64") (code_of _ (λ M. primitive.primitive.parse_u64.Met.met {M = M})) (λ κs (slice, (endianness, _)) r e. primitive::parse_u64 slice.now endianness r)
public_call primitive::primitive::parse_char = call primitive_contracts.primitive.parse_char.ended (fn₀ "primitive::primitive::parse_char") (code_of _ (λ M. primitive.primitive.parse_char.Met.met {M = M})) (λ κs (slice, (endianness, _)) r e. primitive::parse_char slice.now endianness r)
public_call primitive::primitive::parse_i8 = call primitive_contracts.primitive.parse_i8.ended (fn₀ "primitive::primitive::parse_i8") (code_of _ (λ M. primitive.primitive.parse_i8.Met.met {M = M})) (λ κs (slice, (endianness, _)) r e. primitive::parse_i8 slice.now endianness r)
public_call primitive::primitive::parse_i16 = call primitive_contracts.primitive.parse_i16.ended (fn₀ "primitive::primitive::parse_i16") (code_of _ (λ M. primitive.primitive.parse_i16.Met.met {M = M})) (λ κs (slice, (endianness, _)) r e. primitive::parse_i16 slice.now endianness r)
public_call primitive::primitive::parse_i32 = call primitive_contracts.primitive.parse_i32.ended (fn₀ "primitive::primitive::parse_i32") (code_of _ (λ M. primitive.primitive.parse_i32.Met.met {M = M})) (λ κs (slice, (endianness, _)) r e. primitive::parse_i32 slice.now endianness r)
public_call primitive::primitive::parse_i64 = call primitive_contracts.primitive.parse_i64.ended (fn₀ "primitive::primitive::parse_i64") (code_of _ (λ M. primitive.primitive.parse_i64.Met.met {M = M})) (λ κs (slice, (endianness, _)) r e. primitive::parse_i64 slice.now endianness r)
public_call primitive::primitive::parse_f32 = call primitive_contracts.primitive.parse_f32.ended (fn₀ "primitive::primitive::parse_f32") (code_of _ (λ M. primitive.primitive.parse_f32.Met.met {M = M})) (λ κs (slice, (endianness, _)) r e. primitive::parse_f32 slice.now endianness r)
public_call primitive::primitive::parse_f64 = call primitive_contracts.primitive.parse_f64.ended (fn₀ "primitive::primitive::parse_f64") (code_of _ (λ M. primitive.primitive.parse_f64.Met.met {M = M})) (λ κs (slice, (endianness, _)) r e. primitive::parse_f64 slice.now endianness r)
public_call primitive::primitive::blender_name_char = shows primitive_contracts.primitive.blender_name_char.ended (fn₀ "primitive::primitive::blender_name_char") (code_of _ (λ M. primitive.primitive.blender_name_char.Met.met {M = M})) (λ κs r. r.now) (λ κs a r e. primitive::blender_name_char r.now)
public_call primitive::primitive::blender_name_i8 = shows primitive_contracts.primitive.blender_name_i8.ended (fn₀ "primitive::primitive::blender_name_i8") (code_of _ (λ M. primitive.primitive.blender_name_i8.Met.met {M = M})) (λ κs r. r.now) (λ κs a r e. primitive::blender_name_i8 r.now)
public_call primitive::primitive::blender_name_u8 = shows primitive_contracts.primitive.blender_name_u8.ended (fn₀ "primitive::primitive::blender_name_u8") (code_of _ (λ M. primitive.primitive.blender_name_u8.Met.met {M = M})) (λ κs r. r.now) (λ κs a r e. primitive::blender_name_u8 r.now)
public_call primitive::primitive::blender_name_u16 = shows primitive_contracts.primitive.blender_name_u16.ended (fn₀ "primitive::primitive::blender_name_u16") (code_of _ (λ M. primitive.primitive.blender_name_u16.Met.met {M = M})) (λ κs r. r.now) (λ κs a r e. primitive::blender_name_u16 r.now)
public_call primitive::primitive::blender_name_i16 = shows primitive_contracts.primitive.blender_name_i16.ended (fn₀ "primitive::primitive::blender_name_i16") (code_of _ (λ M. primitive.primitive.blender_name_i16.Met.met {M = M})) (λ κs r. r.now) (λ κs a r e. primitive::blender_name_i16 r.now)
public_call primitive::primitive::blender_name_i32 = shows primitive_contracts.primitive.blender_name_i32.ended (fn₀ "primitive::primitive::blender_name_i32") (code_of _ (λ M. primitive.primitive.blender_name_i32.Met.met {M = M})) (λ κs r. r.now) (λ κs a r e. primitive::blender_name_i32 r.now)
public_call primitive::primitive::blender_name_u32 = shows primitive_contracts.primitive.blender_name_u32.ended (fn₀ "primitive::primitive::blender_name_u32") (code_of _ (λ M. primitive.primitive.blender_name_u32.Met.met {M = M})) (λ κs r. r.now) (λ κs a r e. primitive::blender_name_u32 r.now)
public_call primitive::primitive::blender_name_f32 = shows primitive_contracts.primitive.blender_name_f32.ended (fn₀ "primitive::primitive::blender_name_f32") (code_of _ (λ M. primitive.primitive.blender_name_f32.Met.met {M = M})) (λ κs r. r.now) (λ κs a r e. primitive::blender_name_f32 r.now)
public_call primitive::primitive::blender_name_f64 = shows primitive_contracts.primitive.blender_name_f64.ended (fn₀ "primitive::primitive::blender_name_f64") (code_of _ (λ M. primitive.primitive.blender_name_f64.Met.met {M = M})) (λ κs r. r.now) (λ κs a r e. primitive::blender_name_f64 r.now)
public_call primitive::primitive::blender_name_u64 = shows primitive_contracts.primitive.blender_name_u64.ended (fn₀ "primitive::primitive::blender_name_u64") (code_of _ (λ M. primitive.primitive.blender_name_u64.Met.met {M = M})) (λ κs r. r.now) (λ κs a r e. primitive::blender_name_u64 r.now)
public_call primitive::primitive::blender_name_i64 = shows primitive_contracts.primitive.blender_name_i64.ended (fn₀ "primitive::primitive::blender_name_i64") (code_of _ (λ M. primitive.primitive.blender_name_i64.Met.met {M = M})) (λ κs r. r.now) (λ κs a r e. primitive::blender_name_i64 r.now)
public_call field::field::fn_pointer = call field_contracts.field.fn_pointer.ended (fn₀ "field::field::fn_pointer") (code_of _ (λ M. field.field.fn_pointer.Met.met {M = M})) (λ κs (name, _) r e. field::fn_pointer name.now r)
public_call field::field::scan_field = call field_contracts.field.scan_field.ended (fn₀ "field::field::scan_field") (code_of _ (λ M. field.field.scan_field.Met.met {M = M})) (λ κs (name, _) r e. field::scan_field name.now r)
public_call field::field::parse_field =
    lends field_contracts.field.parse_field.ended (fn₀ "field::field::parse_field") (code_of _ (λ M. field.field.parse_field.Met.met {M = M})) (λ κs (name, (dimensions, _)) r (_, (dimensions', _)). field::parse_field name.now dimensions.now r dimensions'.now)
    (λ κs (_, (dimensions, _)) r (_, (dimensions', _)). Refused (paper_field r) → dimensions' ≡ dimensions.now)
public_call «field::field::width» = call field_contracts.field.width.ended (fn₀ "field::field::width") (code_of _ (λ M. field.field.width.Met.met {M = M})) (λ κs (d, (size, (pointer_size, _))) r e. «field::width» d size pointer_size r)
public_call «field::field::FieldErrorFromRefusal::from» = call field_contracts.field.FieldErrorFromRefusal.from.ended (fn₀ "field::field::FieldErrorFromRefusal::from") (code_of _ (λ M. field.field.FieldErrorFromRefusal.from.Met.met {M = M})) (λ κs (value, _) r e. r ≡ FieldError.Refusal value)
public_call «dna::dna::DnaTable::number» = call dna_contracts.dna.DnaTable.number.ended (fn₀ "dna::dna::DnaTable::number") (code_of _ (λ M. dna.dna.DnaTable.number.Met.met {M = M})) (λ κs (self, _) r e. «dna::DnaTable::number» self r)
public_call dna::dna::dna_counts = call dna_contracts.dna.dna_counts.ended (fn₀ "dna::dna::dna_counts") (code_of _ (λ M. dna.dna.dna_counts.Met.met {M = M})) (λ κs (payload, (endianness, _)) r e. dna::dna_counts payload.now endianness r)
public_call «dna::dna::dna» =
    lends dna_contracts.dna.dna.ended (fn₀ "dna::dna::dna") (code_of _ (λ M. dna.dna.dna.Met.met {M = M})) (λ κs (payload, (endianness, (names, (types, (structs, (fields, _)))))) r (_, (_, (names', (types', (structs', (fields', _)))))). «dna::dna» payload.now endianness names.now types.now structs.now fields.now r names'.now types'.now structs'.now fields'.now)
    (λ κs (_, (_, (names, (types, (structs, (fields, _)))))) r (_, (_, (names', (types', (structs', (fields', _)))))). Refused (paper_tables r) → (names' ≡ names.now) × (types' ≡ types.now) × (structs' ≡ structs.now) × (fields' ≡ fields.now))
public_call «dna::dna::DnaErrorFromFault::from» = call dna_contracts.dna.DnaErrorFromFault.from.ended (fn₀ "dna::dna::DnaErrorFromFault::from") (code_of _ (λ M. dna.dna.DnaErrorFromFault.from.Met.met {M = M})) (λ κs (value, _) r e. r ≡ DnaError.Fault value)
public_call header::FileFormat::header_len = call header_contracts.FileFormat.header_len.ended (fn₀ "header::FileFormat::header_len") (code_of _ (λ M. header.FileFormat.header_len.Met.met {M = M})) (λ κs (self, _) r e. FileFormat::header_len self r)
public_call header::FileFormat::block_header_len = call header_contracts.FileFormat.block_header_len.ended (fn₀ "header::FileFormat::block_header_len") (code_of _ (λ M. header.FileFormat.block_header_len.Met.met {M = M})) (λ κs (self, (pointer_size, _)) r e. FileFormat::block_header_len self pointer_size r)
public_call «header::Header::new» = call header_contracts.Header.new.ended (fn₀ "header::Header::new") (code_of _ (λ M. header.Header.new.Met.met {M = M})) (λ κs (pointer_size, (endianness, (version, (format, _)))) r e. «Header::new» pointer_size endianness version format r)
public_call «block::BlockHeader::new» = call block_contracts.BlockHeader.new.ended (fn₀ "block::BlockHeader::new") (code_of _ (λ M. block.BlockHeader.new.Met.met {M = M})) (λ κs (code, (size, (address, (index, (count, _))))) r e. «BlockHeader::new» code size address index count r)
public_call block::Kind::of_code = call block_contracts.Kind.of_code.ended (fn₀ "block::Kind::of_code") (code_of _ (λ M. block.Kind.of_code.Met.met {M = M})) (λ κs (code, _) r e. Kind::of_code code r)
public_call «block::About::new» = call block_contracts.About.new.ended (fn₀ "block::About::new") (code_of _ (λ M. block.About.new.Met.met {M = M})) (λ κs (takes, (found, (coded, (dna, _)))) r e. «About::new» takes found coded dna r)
public_call «block::Kind::about» = call block_contracts.Kind.about.ended (fn₀ "block::Kind::about") (code_of _ (λ M. block.Kind.about.Met.met {M = M})) (λ κs (self, _) r e. «Kind::about» self r)
public_call header::blend::pointer_size = call header_contracts.blend.pointer_size.ended (fn₀ "header::blend::pointer_size") (code_of _ (λ M. header.blend.pointer_size.Met.met {M = M})) (λ κs (c, (s, _)) r e. blend::pointer_size c s.now r)
public_call «header::blend::endianness» = call header_contracts.blend.endianness.ended (fn₀ "header::blend::endianness") (code_of _ (λ M. header.blend.endianness.Met.met {M = M})) (λ κs (c, (s, _)) r e. «blend::endianness» c s.now r)
public_call «header::blend::version» = call header_contracts.blend.version.ended (fn₀ "header::blend::version") (code_of _ (λ M. header.blend.version.Met.met {M = M})) (λ κs (c, (s, _)) r e. «blend::version» c s.now r)
public_call «header::blend::header» = call header_contracts.blend.header.ended (fn₀ "header::blend::header") (code_of _ (λ M. header.blend.header.Met.met {M = M})) (λ κs (file, _) r e. «blend::header» file.now r)
public_call header::blend::refusal_of = call header_contracts.blend.refusal_of.ended (fn₀ "header::blend::refusal_of") (code_of _ (λ M. header.blend.refusal_of.Met.met {M = M})) (λ κs (answer, _) r e. blend::refusal_of answer r)
public_call block::blend::block_header_code = call block_contracts.blend.block_header_code.ended (fn₀ "block::blend::block_header_code") (code_of _ (λ M. block.blend.block_header_code.Met.met {M = M})) (λ κs (c, (s, _)) r e. blend::block_header_code c s.now r)
public_call block::blend::block_header = call block_contracts.blend.block_header.ended (fn₀ "block::blend::block_header") (code_of _ (λ M. block.blend.block_header.Met.met {M = M})) (λ κs (c, (s, (h, _))) r e. blend::block_header c s.now h r)
public_call block::blend::header_in = call block_contracts.blend.header_in.ended (fn₀ "block::blend::header_in") (code_of _ (λ M. block.blend.header_in.Met.met {M = M})) (λ κs (part, (h, _)) r e. blend::header_in part.now h r)
public_call blend::blend::boundary_at = call blend_contracts.blend.boundary_at.ended (fn₀ "blend::blend::boundary_at") (code_of _ (λ M. blend.blend.boundary_at.Met.met {M = M})) (λ κs (s, (h, (at, _))) r e. blend::boundary_at s.now h at r)
public_call «blend::blend::blend» =
    lends blend_contracts.blend.blend.ended (fn₀ "blend::blend::blend") (code_of _ (λ M. blend.blend.blend.Met.met {M = M})) (λ κs (file, (table, _)) r (_, (table', _)). «blend::blend» file.now table.now r table'.now)
    (λ κs (_, (table, _)) r (_, (table', _)). Refused (paper_blend r) → table' ≡ table.now)
public_call «blend::blend::BlendErrorFromFault::from» = call blend_contracts.blend.BlendErrorFromFault.from.ended (fn₀ "blend::blend::BlendErrorFromFault::from") (code_of _ (λ M. blend.blend.BlendErrorFromFault.from.Met.met {M = M})) (λ κs (value, _) r e. r ≡ BlendError.Fault value)
public_call «walker::Place::start» = call walker_contracts.Place.start.ended (fn₀ "walker::Place::start") (code_of _ (λ M. walker.Place.start.Met.met {M = M})) (λ κs a r e. «Place::start» r)
public_call «walker::Place::step» = call walker_contracts.Place.step.ended (fn₀ "walker::Place::step") (code_of _ (λ M. walker.Place.step.Met.met {M = M})) (λ κs (self, (file, _)) r e. «Place::step» self file.now r)
public_call «runtime::runtime::view» = call runtime_contracts.runtime.view.ended (fn₀ "runtime::runtime::view") (code_of _ (λ M. runtime.runtime.view.Met.met {M = M})) (λ κs (file, (table, (row, _))) r e. «runtime::view» file.now table.now row r)
public_call runtime::runtime::view_part = shows runtime_contracts.runtime.view_part.ended (fn₀ "runtime::runtime::view_part") (code_of _ (λ M. runtime.runtime.view_part.Met.met {M = M})) (λ κs r. r.now) (λ κs (file, (table, (row, _))) r e. runtime::view_part file.now table.now row r.now)
public_call «runtime::runtime::matches» = call runtime_contracts.runtime.matches.ended (fn₀ "runtime::runtime::matches") (code_of _ (λ M. runtime.runtime.matches.Met.met {M = M})) (λ κs (wanted, (code, (address, _))) r e. «runtime::matches» wanted code address r)
public_call runtime::runtime::get_ptr = call runtime_contracts.runtime.get_ptr.ended (fn₀ "runtime::runtime::get_ptr") (code_of _ (λ M. runtime.runtime.get_ptr.Met.met {M = M})) (λ κs (table, (rows, (address, _))) r e. runtime::get_ptr table.now rows address r)
public_call «runtime::runtime::code» = call runtime_contracts.runtime.code.ended (fn₀ "runtime::runtime::code") (code_of _ (λ M. runtime.runtime.code.Met.met {M = M})) (λ κs (number, _) r e. «runtime::code» number r)
public_call «index::index::build» =
    lends index_contracts.index.build.ended (fn₀ "index::index::build") (code_of _ (λ M. index.index.build.Met.met {M = M})) (λ κs (table, (rows, (buckets, (heads, (links, _))))) r (_, (_, (_, (heads', (links', _))))). «index::build» table.now rows buckets heads.now links.now r heads'.now links'.now)
    (λ κs (_, (_, (_, (heads, (links, _))))) r (_, (_, (_, (heads', (links', _))))). Refused (paper_indexed r) → (heads' ≡ heads.now) × (links' ≡ links.now))
public_call «index::index::find» = call index_contracts.index.find.ended (fn₀ "index::index::find") (code_of _ (λ M. index.index.find.Met.met {M = M})) (λ κs (table, (rows, (buckets, (heads, (links, (address, _)))))) r e. «index::find» table.now rows buckets heads.now links.now address r)
public_call writable::writable::row_at = call writable_contracts.writable.row_at.ended (fn₀ "writable::writable::row_at") (code_of _ (λ M. writable.writable.row_at.Met.met {M = M})) (λ κs (table, (row, _)) r e. writable::row_at table.now row r)
public_call writable::writable::bytes_needed = call writable_contracts.writable.bytes_needed.ended (fn₀ "writable::writable::bytes_needed") (code_of _ (λ M. writable.writable.bytes_needed.Met.met {M = M})) (λ κs (h, (table, (rows, (source, _)))) r e. writable::bytes_needed h table.now rows source.now r)
public_call «writable::writable::WritableErrorFromFault::from» = call writable_contracts.writable.WritableErrorFromFault.from.ended (fn₀ "writable::writable::WritableErrorFromFault::from") (code_of _ (λ M. writable.writable.WritableErrorFromFault.from.Met.met {M = M})) (λ κs (value, _) r e. r ≡ WritableError.Fault value)
public_call «writer::writer::write» =
    lends writer_contracts.writer.write.ended (fn₀ "writer::writer::write") (code_of _ (λ M. writer.writer.write.Met.met {M = M})) (λ κs (h, (table, (rows, (source, (out, _))))) r (_, (_, (_, (_, (out', _))))). «writer::write» h table.now rows source.now out.now r out'.now)
    (λ κs (_, (_, (_, (_, (out, _))))) r (_, (_, (_, (_, (out', _))))). Refused (paper_write r) → out' ≡ out.now)
public_call «writer::writer::WriteErrorFromWritableError::from» = call writer_contracts.writer.WriteErrorFromWritableError.from.ended (fn₀ "writer::writer::WriteErrorFromWritableError::from") (code_of _ (λ M. writer.writer.WriteErrorFromWritableError.from.Met.met {M = M})) (λ κs (value, _) r e. r ≡ WriteError.Unwritable value)
public_call held::step_at = call held_contracts.step_at.ended (fn₀ "held::step_at") (code_of _ (λ M. held.step_at.Met.met {M = M})) (λ κs (file, (place, _)) r e. step_at file.now place r)
public_call «held::over» = call held_contracts.over.ended (fn₀ "held::over") (code_of _ (λ M. held.over.Met.met {M = M})) (λ κs (file, _) r e. «over» file r)
public_call «held::next» = call held_contracts.next.ended (fn₀ "held::next") (code_of _ (λ M. held.next.Met.met {M = M})) (λ κs (w, _) r e. «next» w r)
public_call «held::moved» = call held_contracts.moved.ended (fn₀ "held::moved") (code_of _ (λ M. held.moved.Met.met {M = M})) (λ κs (w, (place, _)) r e. «moved» w place r)
public_call held::step_from = call held_contracts.step_from.ended (fn₀ "held::step_from") (code_of _ (λ M. held.step_from.Met.met {M = M})) (λ κs (file, (place, _)) r e. step_from file.now place r)
public_call held::row_is = call held_contracts.row_is.ended (fn₀ "held::row_is") (code_of _ (λ M. held.row_is.Met.met {M = M})) (λ κs (row, (address, _)) r e. row_is row address r)
public_call held::find_row = call held_contracts.find_row.ended (fn₀ "held::find_row") (code_of _ (λ M. held.find_row.Met.met {M = M})) (λ κs (rows, (n, (address, _))) r e. find_row rows.now n address r)
public_call held::find_in = call held_contracts.find_in.ended (fn₀ "held::find_in") (code_of _ (λ M. held.find_in.Met.met {M = M})) (λ κs (rows, (n, (address, _))) r e. find_in rows n address r)
public_call exports::blend_header = call exports_contracts.blend_header.ended (fn₀ "exports::blend_header") (code_of _ (λ M. exports.blend_header.Met.met {M = M})) (λ κs (file, _) r e. blend_header file.now r)
public_call exports::blend_read =
    lends exports_contracts.blend_read.ended (fn₀ "exports::blend_read") (code_of _ (λ M. exports.blend_read.Met.met {M = M})) (λ κs (file, (table, _)) r (_, (table', _)). blend_read file.now table.now r table'.now)
    (λ κs (_, (table, _)) r (_, (table', _)). Nonzero r.refusal → table' ≡ table.now)
public_call exports::blend_step = call exports_contracts.blend_step.ended (fn₀ "exports::blend_step") (code_of _ (λ M. exports.blend_step.Met.met {M = M})) (λ κs (file, (at, (dna, _))) r e. blend_step file.now at dna r)
public_call exports::blend_catalogue =
    lends exports_contracts.blend_catalogue.ended (fn₀ "exports::blend_catalogue") (code_of _ (λ M. exports.blend_catalogue.Met.met {M = M})) (λ κs (payload, (order, (names, (types, (structs, (fields, _)))))) r (_, (_, (names', (types', (structs', (fields', _)))))). blend_catalogue payload.now order names.now types.now structs.now fields.now r names'.now types'.now structs'.now fields'.now)
    (λ κs (_, (_, (names, (types, (structs, (fields, _)))))) r (_, (_, (names', (types', (structs', (fields', _)))))). Nonzero r.refusal → (names' ≡ names.now) × (types' ≡ types.now) × (structs' ≡ structs.now) × (fields' ≡ fields.now))
public_call exports::blend_field =
    lends exports_contracts.blend_field.ended (fn₀ "exports::blend_field") (code_of _ (λ M. exports.blend_field.Met.met {M = M})) (λ κs (name, (dimensions, _)) r (_, (dimensions', _)). blend_field name.now dimensions.now r dimensions'.now)
    (λ κs (_, (dimensions, _)) r (_, (dimensions', _)). Nonzero r.refusal → dimensions' ≡ dimensions.now)
public_call exports::blend_width = call exports_contracts.blend_width.ended (fn₀ "exports::blend_width") (code_of _ (λ M. exports.blend_width.Met.met {M = M})) (λ κs (field, (size, (pointer_bytes, _))) r e. blend_width field size pointer_bytes r)
public_call exports::blend_view = call exports_contracts.blend_view.ended (fn₀ "exports::blend_view") (code_of _ (λ M. exports.blend_view.Met.met {M = M})) (λ κs (file, (table, (row, _))) r e. blend_view file.now table.now row r)
public_call exports::blend_lookup = call exports_contracts.blend_lookup.ended (fn₀ "exports::blend_lookup") (code_of _ (λ M. exports.blend_lookup.Met.met {M = M})) (λ κs (table, (rows, (address, _))) r e. blend_lookup table.now rows address r)
public_call exports::blend_index =
    lends exports_contracts.blend_index.ended (fn₀ "exports::blend_index") (code_of _ (λ M. exports.blend_index.Met.met {M = M})) (λ κs (table, (rows, (buckets, (heads, (links, _))))) r (_, (_, (_, (heads', (links', _))))). blend_index table.now rows buckets heads.now links.now r heads'.now links'.now)
    (λ κs (_, (_, (_, (heads, (links, _))))) r (_, (_, (_, (heads', (links', _))))). Nonzero r.refusal → (heads' ≡ heads.now) × (links' ≡ links.now))
public_call exports::blend_find = call exports_contracts.blend_find.ended (fn₀ "exports::blend_find") (code_of _ (λ M. exports.blend_find.Met.met {M = M})) (λ κs (table, (rows, (buckets, (heads, (links, (address, _)))))) r e. blend_find table.now rows buckets heads.now links.now address r)
public_call exports::blend_write =
    lends exports_contracts.blend_write.ended (fn₀ "exports::blend_write") (code_of _ (λ M. exports.blend_write.Met.met {M = M})) (λ κs (edition, (pointer_bytes, (order, (major, (minor, (table, (rows, (source, (out, _))))))))) r (_, (_, (_, (_, (_, (_, (_, (_, (out', _))))))))). blend_write edition pointer_bytes order major minor table.now rows source.now out.now r out'.now)
    (λ κs (_, (_, (_, (_, (_, (_, (_, (_, (out, _))))))))) r (_, (_, (_, (_, (_, (_, (_, (_, (out', _))))))))). Nonzero r.refusal → out' ≡ out.now)
public_call exports::blend_u8 = call exports_contracts.blend_u8.ended (fn₀ "exports::blend_u8") (code_of _ (λ M. exports.blend_u8.Met.met {M = M})) (λ κs (slice, (order, _)) r e. blend_u8 slice.now order r)
public_call exports::blend_u16 = call exports_contracts.blend_u16.ended (fn₀ "exports::blend_u16") (code_of _ (λ M. exports.blend_u16.Met.met {M = M})) (λ κs (slice, (order, _)) r e. blend_u16 slice.now order r)
public_call exports::blend_u32 = call exports_contracts.blend_u32.ended (fn₀ "exports::blend_u32") (code_of _ (λ M. exports.blend_u32.Met.met {M = M})) (λ κs (slice, (order, _)) r e. blend_u32 slice.now order r)
public_call exports::blend_u64 = call exports_contracts.blend_u64.ended (fn₀ "exports::blend_u64") (code_of _ (λ M. exports.blend_u64.Met.met {M = M})) (λ κs (slice, (order, _)) r e. blend_u64 slice.now order r)
public_call «demands::read» =
    lends demands_contracts.read.ended (fn₀ "demands::read") (code_of _ (λ M. demands.read.Met.met {M = M})) (λ κs (file, (table, _)) r (_, (table', _)). «read» file.now table.now r table'.now)
    (λ κs (_, (table, _)) r (_, (table', _)). Refused (paper_blend r) → table' ≡ table.now)
public_call demands::read_two =
    lends demands_contracts.read_two.ended (fn₀ "demands::read_two") (code_of _ (λ M. demands.read_two.Met.met {M = M})) (λ κs (one, (first, (other, (second, _)))) r (_, (first', (_, (second', _)))). read_two one.now first.now other.now second.now r first'.now second'.now)
    (λ κs (_, (first, (_, (second, _)))) r (_, (first', (_, (second', _)))). (Refused (paper_blend r.one) → first' ≡ first.now) × (Refused (paper_blend r.other) → second' ≡ second.now))
