-- Every public call: that it keeps its contract is the theorem that the check has of its routine, whose contract is this one by computation; that the contract
-- leaves one outcome follows from its answer's paper losing nothing.
use Rattle.std.specs.Prelude.{Result}
use Prim.Native.Nat.{ℕ, ◌/◌}
use mathlib.Core.List.{List}
use mathlib.Core.Path.{◌≡◌, refl, sym, ◌∙◌, ap}
use seplogic.Ra.Ura.{Ura}
use base.Logic.{SProp, sep, emp, fst∗}
use prog.Model.{Model}
use prog.Wired.{Code, Wired}
use types.Logic.{Logic}
use mir.Syntax.{Callee, fn₀}
use contract.Lifetimes.{Lfts}
use contract.Monad.{fact}
use contract.Running.{Running}
use lib.ListN.{length}
use denote.Ask.Run.{routine_mono}
use denote.Ref.{Bor}
use denote.Triple.Entry.{Args, Res}
use denote.Triple.Clauses.{Ended, Clauses, AtExit, at_exit, closing}
use denote.Triple.Spec.{Meets}
use denote.Triple.Weaken.{weaken}
use Rattle.octets.specs.Paper.{Paper}
use Rattle.octets.specs.Paper.Paper.{accepts, integer, real, refuses}
use Rattle.octets.specs.Calls.{PointerSize::bytes_num}
use Rattle.octets.specs.Reader.{run}
use Rattle.octets.specs.Tables.{written}
use Rattle.field.specs.Declarators.{declared, parsed_as}
use Rattle.dna.specs.Catalogue.{catalogue, rooms, read_as as catalogueAs}
use Rattle.blend.specs.declared.blend.RawBlend.{RawBlend}
use Rattle.blend.specs.declared.blend.BlendError.{BlendError}
use Rattle.walker.specs.declared.Place.{Place}
use Rattle.header.specs.Calls.{FileFormat::header_len, FileFormat::block_header_len}
use Rattle.blend.specs.Calls.{«blend::blend»}
use Rattle.blend.specs.Chain.{file_by, read_as, paper_blend}
use Rattle.block.specs.Rows.{per_row}
use Rattle.header.specs.Header.{header_bytes}
use Rattle.exports.specs.declared.BlendField.{BlendField}
use Rattle.exports.specs.declared.BlendCatalogue.{BlendCatalogue}
use Rattle.exports.specs.declared.BlendRead.{BlendRead}
use Rattle.exports.specs.declared.BlendIndex.{BlendIndex}
use Rattle.exports.specs.declared.BlendWritten.{BlendWritten}
use Rattle.exports.specs.Calls.{blend_read, blend_catalogue, blend_field, blend_index, blend_write}
use Rattle.index.specs.Index.{indexed_as}
use Rattle.writer.specs.declared.writer.WriteError.{WriteError}
use Rattle.writer.specs.Writer.{write_of, paper_write, output_after}
use Rattle.exports.specs.Exports.{refusal, order_of, field_out, header_of}
use Rattle.demands.specs.declared.Two.{Two}
use Rattle.octets.proofs as octets
use Rattle.octets.specs.contracts as octets_contracts
use Rattle.primitive.proofs as primitive
use Rattle.field.proofs as field
use Rattle.dna.proofs as dna
use Rattle.header.proofs as header
use Rattle.header.specs.contracts as header_contracts
use Rattle.block.proofs as block
use Rattle.blend.proofs as blend
use Rattle.walker.proofs as walker
use Rattle.runtime.proofs as runtime
use Rattle.index.proofs as index
use Rattle.writable.proofs as writable
use Rattle.writer.proofs as writer
use Rattle.held.proofs as held
use Rattle.exports.proofs as exports
use Rattle.demands.proofs as demands
use Rattle.octets.proofs.Lossless.{at_one, one_refusal, whole-found, whole-moved, whole-begun}
use Rattle.primitive.proofs.Lossless.{whole_unsigned, whole_signed, whole_float}
use Rattle.field.proofs.Lossless.{whole-field, whole-scanned, whole-function, whole-width}
use Rattle.dna.proofs.Lossless.{one_filling, whole-counted as wholeCountedDna}
use Rattle.block.proofs.Lossless.{whole_kind}
use Rattle.blend.proofs.Lossless.{whole-blend}
use Rattle.header.proofs.Lossless.{whole-header}
use Rattle.walker.proofs.Lossless.{whole-step}
use Rattle.index.proofs.Lossless.{whole_indexed, whole-found as whole-found-index}
use Rattle.runtime.proofs.Lossless.{whole-view, whole-pointer, whole_code}
use Rattle.held.specs.declared.Walker.{Walker}
use Rattle.promises.specs.Keeps.{Says, Keeps, Holds}
use Rattle.promises.specs.Calls.{PublicCall, Refused, Nonzero, public_call}
use Rattle.promises.specs.Calls.PublicCall.{octets::PointerSize::bytes_num, «octets::Refusal::number», octets::Refusal::of_number, «octets::Fault::refusal», «octets::Fault::place», «octets::FaultFromRefusal::from», octets::cursor::Width::bytes_num, octets::cursor::stands_at, «octets::cursor::before», «octets::cursor::Cursor::new», «octets::cursor::Cursor::number», «octets::cursor::Cursor::skip», «octets::cursor::Cursor::bytes», «octets::cursor::Cursor::part», «octets::cursor::Cursor::mark», «octets::cursor::Cursor::begins», «octets::cursor::Cursor::until», «octets::cursor::Cursor::string», primitive::primitive::parse_u8, primitive::primitive::parse_u16, primitive::primitive::parse_u32, primitive::primitive::parse_u64, primitive::primitive::parse_char, primitive::primitive::parse_i8, primitive::primitive::parse_i16, primitive::primitive::parse_i32, primitive::primitive::parse_i64, primitive::primitive::parse_f32, primitive::primitive::parse_f64, primitive::primitive::blender_name_char, primitive::primitive::blender_name_i8, primitive::primitive::blender_name_u8, primitive::primitive::blender_name_u16, primitive::primitive::blender_name_i16, primitive::primitive::blender_name_i32, primitive::primitive::blender_name_u32, primitive::primitive::blender_name_f32, primitive::primitive::blender_name_f64, primitive::primitive::blender_name_u64, primitive::primitive::blender_name_i64, field::field::fn_pointer, field::field::scan_field, field::field::parse_field, «field::field::width», «field::field::FieldErrorFromRefusal::from», «dna::dna::DnaTable::number», dna::dna::dna_counts, «dna::dna::dna», «dna::dna::DnaErrorFromFault::from», header::FileFormat::header_len, header::FileFormat::block_header_len, «header::Header::new», «block::BlockHeader::new», block::Kind::of_code, «block::About::new», «block::Kind::about», header::blend::pointer_size, «header::blend::endianness», «header::blend::version», «header::blend::header», header::blend::refusal_of, block::blend::block_header_code, block::blend::block_header, block::blend::header_in, blend::blend::boundary_at, «blend::blend::blend», «blend::blend::BlendErrorFromFault::from», «walker::Place::start», «walker::Place::step», «runtime::runtime::view», runtime::runtime::view_part, «runtime::runtime::matches», runtime::runtime::get_ptr, «runtime::runtime::code», «index::index::build», «index::index::find», writable::writable::row_at, writable::writable::bytes_needed, «writable::writable::WritableErrorFromFault::from», «writer::writer::write», «writer::writer::WriteErrorFromWritableError::from», held::step_at, «held::over», «held::next», «held::moved», held::step_from, held::row_is, held::find_row, held::find_in, exports::blend_header, exports::blend_read, exports::blend_step, exports::blend_catalogue, exports::blend_field, exports::blend_width, exports::blend_view, exports::blend_lookup, exports::blend_index, exports::blend_find, exports::blend_write, exports::blend_u8, exports::blend_u16, exports::blend_u32, exports::blend_u64, «demands::read», demands::read_two}

-- of a function whose contract has a second clause besides, the first is kept
module _ (T : Ended) (name : Callee) (code : Code) (says : Says T)
    (also : (M : Type 1) (𝓤 : Ura M) (𝓛 : Logic 𝓤) (𝓜 : Model 𝓤 𝓛.H) (𝓡 : Running 𝓤 𝓛.H 𝓜) (κs : Lfts T.signature.lifetimes)
    → Args T.signature κs → Res T.signature κs → AtExit T κs → SProp 𝓤) where
  abbrev both : {M : Type 1} {𝓤 : Ura M} (𝓛 : Logic 𝓤) (𝓜 : Model 𝓤 𝓛.H) (𝓡 : Running 𝓤 𝓛.H 𝓜) → Clauses 𝓤 T
  both {M} {𝓤 = 𝓤} 𝓛 𝓜 𝓡 κs a = record { ghost = Unit {0}; requires = λ g. emp 𝓤; ensures = λ g r e. sep 𝓤 (fact 𝓤 (says κs a r e)) (also M 𝓤 𝓛 𝓜 𝓡 κs a r e) }

  first-kept : ((M : Type 1) (𝓤 : Ura M) (𝓛 : Logic 𝓤) (𝓜 : Model 𝓤 𝓛.H) (𝓡 : Running 𝓤 𝓛.H 𝓜)
      → Wired 𝓡.env code → Meets 𝓛 T.signature (𝓡.run (𝓡.env name)) (closing 𝓛 T (both 𝓛 𝓜 𝓡))) → Keeps T name code says
  first-kept met M 𝓤 𝓛 𝓜 𝓡 wired =
      weaken 𝓛 T (both 𝓛 𝓜 𝓡) (λ κs a g r e. fact 𝓤 (says κs a r e)) (λ κs a g r ws. fst∗ 𝓤 (fact 𝓤 (says κs a r (at_exit T κs a ws))) (also M 𝓤 𝓛 𝓜 𝓡 κs a r (at_exit T κs a ws))) (𝓡.run (𝓡.env name)) (routine_mono 𝓤 𝓛.H 𝓜 𝓡 (𝓡.env name))
      (met M 𝓤 𝓛 𝓜 𝓡 wired)

-- a walker by what it holds, and what is held last of the tables that are lent
one_walker : (r q : Walker) → r.file ≡ q.file → r.place ≡ q.place → r ≡ q
one_walker r q e f =
    ap (λ (x : Bor (List ℕ)). record { file = x; place = r.place }) e ∙ ap (λ (x : Place). record { file = q.file; place = x }) f

abbrev Lent : Type 0
Lent = Unit {0} × (List ℕ × Unit {0})

lent : (t u : List ℕ) → t ≡ u → ◌≡◌ {A = Lent} (tt, (t, tt)) (tt, (u, tt))
lent t u e = ap {B = Lent} (λ (l : List ℕ). (tt, (l, tt))) e

one-two : (r q : Two) → r.one ≡ q.one → r.other ≡ q.other → r ≡ q
one-two r q e f = ap (λ (x : Result RawBlend BlendError). record { one = x; other = r.other }) e ∙ ap (λ (x : Result RawBlend BlendError). record { one = q.one; other = x }) f

abbrev LentTwo : Type 0
LentTwo = Unit {0} × (List ℕ × (Unit {0} × (List ℕ × Unit {0})))

lent_two : (t u v w : List ℕ) → t ≡ v → u ≡ w → ◌≡◌ {A = LentTwo} (tt, (t, (tt, (u, tt)))) (tt, (v, (tt, (w, tt))))
lent_two t u v w e f = rw (e, f) refl

abbrev Filled : Type 0
Filled = Unit {0} × (Unit {0} × (List ℕ × (List ℕ × (List ℕ × (List ℕ × Unit {0})))))

filled : (n t s f m u v g : List ℕ) → n ≡ m → t ≡ u → s ≡ v → f ≡ g → ◌≡◌ {A = Filled} (tt, (tt, (n, (t, (s, (f, tt)))))) (tt, (tt, (m, (u, (v, (g, tt))))))
filled n t s f m u v g a b c d = rw (a, b, c, d) refl

abbrev LentIndex : Type 0
LentIndex = Unit {0} × (Unit {0} × (Unit {0} × (List ℕ × (List ℕ × Unit {0}))))

lent-index : (h l g m : List ℕ) → h ≡ g → l ≡ m → ◌≡◌ {A = LentIndex} (tt, (tt, (tt, (h, (l, tt))))) (tt, (tt, (tt, (g, (m, tt)))))
lent-index h l g m e f = rw (e, f) refl

abbrev LentOutput : Type 0
LentOutput = Unit {0} × (Unit {0} × (Unit {0} × (Unit {0} × (List ℕ × Unit {0}))))

lent_output : (o p : List ℕ) → o ≡ p → ◌≡◌ {A = LentOutput} (tt, (tt, (tt, (tt, (o, tt))))) (tt, (tt, (tt, (tt, (p, tt)))))
lent_output o p e = rw e refl

abbrev LentWritten : Type 0
LentWritten = Unit {0} × (Unit {0} × (Unit {0} × (Unit {0} × LentOutput)))

lent_written : (o p : List ℕ) → o ≡ p → ◌≡◌ {A = LentWritten} (tt, (tt, (tt, (tt, (tt, (tt, (tt, (tt, (o, tt))))))))) (tt, (tt, (tt, (tt, (tt, (tt, (tt, (tt, (p, tt)))))))))
lent_written o p e = rw e refl

-- A refused call has written nothing: a table is written by the paper of the answer, and a refusal's paper writes nothing.
unwritten : (told rule : Paper) (new t t' : List ℕ) → told ≡ rule → t' ≡ written rule new t → Refused told → t' ≡ t
unwritten told rule new t t' e w r = w ∙ ap (λ (p : Paper). written p new t) (sym e ∙ r.2)

blend-unwritten : (s t : List ℕ) (r : Result RawBlend BlendError) (t' : List ℕ) → «blend::blend» s t r t' → Refused (paper_blend r) → t' ≡ t
blend-unwritten s t r t' x f = unwritten _ _ _ t t' x.0 x.1 f

-- the same by a struct's number of the refusal
unrefused : (p : Paper) (new t t' : List ℕ) (n : ℕ) → n ≡ refusal p → Nonzero n → t' ≡ written p new t → t' ≡ t
unrefused (accepts k vs) new t t' n e f w = absurd (f e)
unrefused (integer z) new t t' n e f w = absurd (f e)
unrefused (real x) new t t' n e f w = absurd (f e)
unrefused (refuses k vs) new t t' n e f w = w

read-unwritten : (s t : List ℕ) (r : BlendRead) (t' : List ℕ) → blend_read s t r t' → Nonzero r.refusal → t' ≡ t
read-unwritten s t r t' x f = unrefused (read_as (file_by header_bytes s) (length t / per_row)) _ t t' r.refusal (ap (λ (b : BlendRead). b.refusal) x.0) f x.1

field-refusal : (p : Paper) → (field_out p).refusal ≡ refusal p
field-refusal (accepts k vs) = refl
field-refusal (integer z) = refl
field-refusal (real x) = refl
field-refusal (refuses k vs) = refl

field-unwritten : (s t : List ℕ) (r : BlendField) (t' : List ℕ) → blend_field s t r t' → Nonzero r.refusal → t' ≡ t
field-unwritten s t r t' x f =
    let p = parsed_as (declared s) (length t) in
    unrefused p _ t t' r.refusal (ap (λ (b : BlendField). b.refusal) x.0 ∙ field-refusal p) f x.1

catalogue-unwritten : (s : List ℕ) (order : ℕ) (n t u f : List ℕ) (r : BlendCatalogue) (n' t' u' f' : List ℕ) → blend_catalogue s order n t u f r n' t' u' f'
    → Nonzero r.refusal → (n' ≡ n) × (t' ≡ t) × (u' ≡ u) × (f' ≡ f)
catalogue-unwritten s order n t u f r n' t' u' f' x z =
    let p = catalogueAs (run (catalogue (order_of order)) s 0) (rooms (length n) (length t) (length u) (length f)) in
    let e = ap (λ (b : BlendCatalogue). b.refusal) x.answer in
    (unrefused p _ n n' r.refusal e z x.in_names, unrefused p _ t t' r.refusal e z x.in_types, unrefused p _ u u' r.refusal e z x.in_structs, unrefused p _ f f' r.refusal e z x.in_fields)

index-unwritten : (t : List ℕ) (rows buckets : ℕ) (heads links : List ℕ) (r : BlendIndex) (heads' links' : List ℕ) → blend_index t rows buckets heads links r heads' links'
    → Nonzero r.refusal → (heads' ≡ heads) × (links' ≡ links)
index-unwritten t rows buckets heads links r heads' links' x z =
    let p = indexed_as t rows buckets heads links in
    let e = ap (λ (b : BlendIndex). b.refusal) x.0 in
    (unrefused p _ heads heads' r.refusal e z x.1, unrefused p _ links links' r.refusal e z x.2)

write-unwritten : (edition bytes order major minor : ℕ) (t : List ℕ) (rows : ℕ) (s out : List ℕ) (r : BlendWritten) (out' : List ℕ) → blend_write edition bytes order major minor t rows s out r out'
    → Nonzero r.refusal → out' ≡ out
write-unwritten edition bytes order major minor t rows s out r out' x z =
    let p = paper_write (write_of (header_of edition bytes order major minor) t rows s (length out)) in
    unrefused p _ out out' r.refusal (ap (λ (b : BlendWritten). b.refusal) x.0) z x.1

pub every : (c : PublicCall) → Holds (public_call c)
every octets::PointerSize::bytes_num = record { keeps = first-kept octets_contracts.PointerSize.bytes_num.ended (fn₀ "octets::PointerSize::bytes_num") _ (λ κs a r e. PointerSize::bytes_num a.0 r) (λ M 𝓤 𝓛 𝓜 𝓡 κs a r e. octets_contracts.PointerSize.bytes_num.ensures-constants 𝓛 κs 𝓜.mem 𝓡.returns a.0 (record { entry = a.0; exit = e.0 }) r) (λ M. octets.PointerSize.bytes_num.Met.met); one = λ κs a r q ws vs x y. (x ∙ sym y, refl) }
every «octets::Refusal::number» = record { keeps = λ M. octets.Refusal.number.Met.met; one = λ κs a r q ws vs x y. (x ∙ sym y, refl) }
every octets::Refusal::of_number = record { keeps = λ M. octets.Refusal.of_number.Met.met; one = λ κs a r q ws vs x y. (one_refusal r q (x ∙ sym y), refl) }
every «octets::Fault::refusal» = record { keeps = λ M. octets.Fault.refusal.Met.met; one = λ κs a r q ws vs x y. (x ∙ sym y, refl) }
every «octets::Fault::place» = record { keeps = λ M. octets.Fault.place.Met.met; one = λ κs a r q ws vs x y. (x ∙ sym y, refl) }
every «octets::FaultFromRefusal::from» = record { keeps = λ M. octets.FaultFromRefusal.from.Met.met; one = λ κs a r q ws vs x y. (x ∙ sym y, refl) }
every octets::cursor::Width::bytes_num = record { keeps = λ M. octets.cursor.Width.bytes_num.Met.met; one = λ κs a r q ws vs x y. (x ∙ sym y, refl) }
every octets::cursor::stands_at = record { keeps = λ M. octets.cursor.stands_at.Met.met; one = λ κs a r q ws vs x y. (x ∙ sym y, refl) }
every «octets::cursor::before» = record { keeps = λ M. octets.cursor.before.Met.met; one = λ κs a r q ws vs x y. (x ∙ sym y, refl) }
every «octets::cursor::Cursor::new» = record { keeps = λ M. octets.cursor.Cursor.new.Met.met; one = λ κs a r q ws vs x y. (at_one r q (x ∙ sym y), refl) }
every «octets::cursor::Cursor::number» = record { keeps = λ M. octets.cursor.Cursor.number.Met.met; one = λ κs a r q ws vs x y. (whole-found r q (x ∙ sym y), refl) }
every «octets::cursor::Cursor::skip» = record { keeps = λ M. octets.cursor.Cursor.skip.Met.met; one = λ κs a r q ws vs x y. (whole-moved r q (x ∙ sym y), refl) }
every «octets::cursor::Cursor::bytes» = record { keeps = λ M. octets.cursor.Cursor.bytes.Met.met; one = λ κs a r q ws vs x y. (whole-moved r q (x ∙ sym y), refl) }
every «octets::cursor::Cursor::part» = record { keeps = λ M. octets.cursor.Cursor.part.Met.met; one = λ κs a r q ws vs x y. (x ∙ sym y, refl) }
every «octets::cursor::Cursor::mark» = record { keeps = λ M. octets.cursor.Cursor.mark.Met.met; one = λ κs a r q ws vs x y. (whole-moved r q (x ∙ sym y), refl) }
every «octets::cursor::Cursor::begins» = record { keeps = λ M. octets.cursor.Cursor.begins.Met.met; one = λ κs a r q ws vs x y. (whole-begun a.0 r q (x ∙ sym y), refl) }
every «octets::cursor::Cursor::until» = record { keeps = λ M. octets.cursor.Cursor.until.Met.met; one = λ κs a r q ws vs x y. (whole-found r q (x ∙ sym y), refl) }
every «octets::cursor::Cursor::string» = record { keeps = λ M. octets.cursor.Cursor.string.Met.met; one = λ κs a r q ws vs x y. (whole-found r q (x ∙ sym y), refl) }
every primitive::primitive::parse_u8 = record { keeps = λ M. primitive.primitive.parse_u8.Met.met; one = λ κs a r q ws vs x y. (whole_unsigned r q (x ∙ sym y), refl) }
every primitive::primitive::parse_u16 = record { keeps = λ M. primitive.primitive.parse_u16.Met.met; one = λ κs a r q ws vs x y. (whole_unsigned r q (x ∙ sym y), refl) }
every primitive::primitive::parse_u32 = record { keeps = λ M. primitive.primitive.parse_u32.Met.met; one = λ κs a r q ws vs x y. (whole_unsigned r q (x ∙ sym y), refl) }
every primitive::primitive::parse_u64 = record { keeps = λ M. primitive.primitive.parse_u64.Met.met; one = λ κs a r q ws vs x y. (whole_unsigned r q (x ∙ sym y), refl) }
every primitive::primitive::parse_char = record { keeps = λ M. primitive.primitive.parse_char.Met.met; one = λ κs a r q ws vs x y. (whole_unsigned r q (x ∙ sym y), refl) }
every primitive::primitive::parse_i8 = record { keeps = λ M. primitive.primitive.parse_i8.Met.met; one = λ κs a r q ws vs x y. (whole_signed r q (x ∙ sym y), refl) }
every primitive::primitive::parse_i16 = record { keeps = λ M. primitive.primitive.parse_i16.Met.met; one = λ κs a r q ws vs x y. (whole_signed r q (x ∙ sym y), refl) }
every primitive::primitive::parse_i32 = record { keeps = λ M. primitive.primitive.parse_i32.Met.met; one = λ κs a r q ws vs x y. (whole_signed r q (x ∙ sym y), refl) }
every primitive::primitive::parse_i64 = record { keeps = λ M. primitive.primitive.parse_i64.Met.met; one = λ κs a r q ws vs x y. (whole_signed r q (x ∙ sym y), refl) }
every primitive::primitive::parse_f32 = record { keeps = λ M. primitive.primitive.parse_f32.Met.met; one = λ κs a r q ws vs x y. (whole_float r q (x ∙ sym y), refl) }
every primitive::primitive::parse_f64 = record { keeps = λ M. primitive.primitive.parse_f64.Met.met; one = λ κs a r q ws vs x y. (whole_float r q (x ∙ sym y), refl) }
every primitive::primitive::blender_name_char = record { keeps = λ M. primitive.primitive.blender_name_char.Met.met; one = λ κs a r q ws vs x y. (x ∙ sym y, refl) }
every primitive::primitive::blender_name_i8 = record { keeps = λ M. primitive.primitive.blender_name_i8.Met.met; one = λ κs a r q ws vs x y. (x ∙ sym y, refl) }
every primitive::primitive::blender_name_u8 = record { keeps = λ M. primitive.primitive.blender_name_u8.Met.met; one = λ κs a r q ws vs x y. (x ∙ sym y, refl) }
every primitive::primitive::blender_name_u16 = record { keeps = λ M. primitive.primitive.blender_name_u16.Met.met; one = λ κs a r q ws vs x y. (x ∙ sym y, refl) }
every primitive::primitive::blender_name_i16 = record { keeps = λ M. primitive.primitive.blender_name_i16.Met.met; one = λ κs a r q ws vs x y. (x ∙ sym y, refl) }
every primitive::primitive::blender_name_i32 = record { keeps = λ M. primitive.primitive.blender_name_i32.Met.met; one = λ κs a r q ws vs x y. (x ∙ sym y, refl) }
every primitive::primitive::blender_name_u32 = record { keeps = λ M. primitive.primitive.blender_name_u32.Met.met; one = λ κs a r q ws vs x y. (x ∙ sym y, refl) }
every primitive::primitive::blender_name_f32 = record { keeps = λ M. primitive.primitive.blender_name_f32.Met.met; one = λ κs a r q ws vs x y. (x ∙ sym y, refl) }
every primitive::primitive::blender_name_f64 = record { keeps = λ M. primitive.primitive.blender_name_f64.Met.met; one = λ κs a r q ws vs x y. (x ∙ sym y, refl) }
every primitive::primitive::blender_name_u64 = record { keeps = λ M. primitive.primitive.blender_name_u64.Met.met; one = λ κs a r q ws vs x y. (x ∙ sym y, refl) }
every primitive::primitive::blender_name_i64 = record { keeps = λ M. primitive.primitive.blender_name_i64.Met.met; one = λ κs a r q ws vs x y. (x ∙ sym y, refl) }
every field::field::fn_pointer = record { keeps = λ M. field.field.fn_pointer.Met.met; one = λ κs a r q ws vs x y. (whole-function r q (x ∙ sym y), refl) }
every field::field::scan_field = record { keeps = λ M. field.field.scan_field.Met.met; one = λ κs a r q ws vs x y. (whole-scanned r q (x ∙ sym y), refl) }
every field::field::parse_field =
    record {
      keeps = λ M. field.field.parse_field.Met.met;
      one = λ κs a r q ws vs x y. (whole-field r q (x.0 ∙ sym y.0), lent ws.1.0 vs.1.0 (x.1 ∙ sym y.1));
      nothing = λ κs a r ws x f. unwritten _ _ _ _ _ x.0 x.1 f;
    }
every «field::field::width» = record { keeps = λ M. field.field.width.Met.met; one = λ κs a r q ws vs x y. (whole-width r q (x ∙ sym y), refl) }
every «field::field::FieldErrorFromRefusal::from» = record { keeps = λ M. field.field.FieldErrorFromRefusal.from.Met.met; one = λ κs a r q ws vs x y. (x ∙ sym y, refl) }
every «dna::dna::DnaTable::number» = record { keeps = λ M. dna.dna.DnaTable.number.Met.met; one = λ κs a r q ws vs x y. (x ∙ sym y, refl) }
every dna::dna::dna_counts = record { keeps = λ M. dna.dna.dna_counts.Met.met; one = λ κs a r q ws vs x y. (wholeCountedDna r q (x ∙ sym y), refl) }
every «dna::dna::dna» =
    record {
      keeps = λ M. dna.dna.dna.Met.met;
      one = λ κs a r q ws vs x y.
          let o = one_filling _ r q _ _ _ _ _ _ _ _ _ _ _ _ x y in
          (o.0, filled _ _ _ _ _ _ _ _ o.1 o.2 o.3 o.4);
      nothing = λ κs a r ws x f.
          (unwritten _ _ _ _ _ x.answer x.in_names f, unwritten _ _ _ _ _ x.answer x.in_types f, unwritten _ _ _ _ _ x.answer x.in_structs f, unwritten _ _ _ _ _ x.answer x.in_fields f);
    }
every «dna::dna::DnaErrorFromFault::from» = record { keeps = λ M. dna.dna.DnaErrorFromFault.from.Met.met; one = λ κs a r q ws vs x y. (x ∙ sym y, refl) }
every header::FileFormat::header_len = record { keeps = first-kept header_contracts.FileFormat.header_len.ended (fn₀ "header::FileFormat::header_len") _ (λ κs a r e. FileFormat::header_len a.0 r) (λ M 𝓤 𝓛 𝓜 𝓡 κs a r e. header_contracts.FileFormat.header_len.ensures-constants 𝓛 κs 𝓜.mem 𝓡.returns a.0 (record { entry = a.0; exit = e.0 }) r) (λ M. header.FileFormat.header_len.Met.met); one = λ κs a r q ws vs x y. (x ∙ sym y, refl) }
every header::FileFormat::block_header_len = record { keeps = first-kept header_contracts.FileFormat.block_header_len.ended (fn₀ "header::FileFormat::block_header_len") _ (λ κs a r e. FileFormat::block_header_len a.0 a.1.0 r) (λ M 𝓤 𝓛 𝓜 𝓡 κs a r e. header_contracts.FileFormat.block_header_len.ensures-constants 𝓛 κs 𝓜.mem 𝓡.returns a.0 a.1.0 (record { entry = a.0; exit = e.0 }) (record { entry = a.1.0; exit = e.1.0 }) r) (λ M. header.FileFormat.block_header_len.Met.met); one = λ κs a r q ws vs x y. (x ∙ sym y, refl) }
every «header::Header::new» = record { keeps = λ M. header.Header.new.Met.met; one = λ κs a r q ws vs x y. (x ∙ sym y, refl) }
every «block::BlockHeader::new» = record { keeps = λ M. block.BlockHeader.new.Met.met; one = λ κs a r q ws vs x y. (x ∙ sym y, refl) }
every block::Kind::of_code = record { keeps = λ M. block.Kind.of_code.Met.met; one = λ κs a r q ws vs x y. (whole_kind r q (x ∙ sym y), refl) }
every «block::About::new» = record { keeps = λ M. block.About.new.Met.met; one = λ κs a r q ws vs x y. (x ∙ sym y, refl) }
every «block::Kind::about» = record { keeps = λ M. block.Kind.about.Met.met; one = λ κs a r q ws vs x y. (x ∙ sym y, refl) }
every header::blend::pointer_size = record { keeps = λ M. header.blend.pointer_size.Met.met; one = λ κs a r q ws vs x y. (whole-found r q (x ∙ sym y), refl) }
every «header::blend::endianness» = record { keeps = λ M. header.blend.endianness.Met.met; one = λ κs a r q ws vs x y. (whole-found r q (x ∙ sym y), refl) }
every «header::blend::version» = record { keeps = λ M. header.blend.version.Met.met; one = λ κs a r q ws vs x y. (whole-found r q (x ∙ sym y), refl) }
every «header::blend::header» = record { keeps = λ M. header.blend.header.Met.met; one = λ κs a r q ws vs x y. (whole-header r q (x ∙ sym y), refl) }
every header::blend::refusal_of = record { keeps = λ M. header.blend.refusal_of.Met.met; one = λ κs a r q ws vs x y. (x ∙ sym y, refl) }
every block::blend::block_header_code = record { keeps = λ M. block.blend.block_header_code.Met.met; one = λ κs a r q ws vs x y. (whole-found r q (x ∙ sym y), refl) }
every block::blend::block_header = record { keeps = λ M. block.blend.block_header.Met.met; one = λ κs a r q ws vs x y. (whole-found r q (x ∙ sym y), refl) }
every block::blend::header_in = record { keeps = λ M. block.blend.header_in.Met.met; one = λ κs a r q ws vs x y. (x ∙ sym y, refl) }
every blend::blend::boundary_at = record { keeps = λ M. blend.blend.boundary_at.Met.met; one = λ κs a r q ws vs x y. (x ∙ sym y, refl) }
every «blend::blend::blend» =
    record {
      keeps = λ M. blend.blend.blend.Met.met;
      one = λ κs a r q ws vs x y. (whole-blend r q (x.0 ∙ sym y.0), lent ws.1.0 vs.1.0 (x.1 ∙ sym y.1));
      nothing = λ κs a r ws x f. blend-unwritten a.0.now a.1.0.now r ws.1.0 x f;
    }
every «blend::blend::BlendErrorFromFault::from» = record { keeps = λ M. blend.blend.BlendErrorFromFault.from.Met.met; one = λ κs a r q ws vs x y. (x ∙ sym y, refl) }
every «walker::Place::start» = record { keeps = λ M. walker.Place.start.Met.met; one = λ κs a r q ws vs x y. (x ∙ sym y, refl) }
every «walker::Place::step» = record { keeps = λ M. walker.Place.step.Met.met; one = λ κs a r q ws vs x y. (whole-step r q (x.0 ∙ sym y.0) (x.1 ∙ sym y.1), refl) }
every «runtime::runtime::view» = record { keeps = λ M. runtime.runtime.view.Met.met; one = λ κs a r q ws vs x y. (whole-view r q (x ∙ sym y), refl) }
every runtime::runtime::view_part = record { keeps = λ M. runtime.runtime.view_part.Met.met; one = λ κs a r q ws vs x y. (x ∙ sym y, refl) }
every «runtime::runtime::matches» = record { keeps = λ M. runtime.runtime.matches.Met.met; one = λ κs a r q ws vs x y. (x ∙ sym y, refl) }
every runtime::runtime::get_ptr = record { keeps = λ M. runtime.runtime.get_ptr.Met.met; one = λ κs a r q ws vs x y. (whole-pointer r q (x ∙ sym y), refl) }
every «runtime::runtime::code» = record { keeps = λ M. runtime.runtime.code.Met.met; one = λ κs a r q ws vs x y. (whole_code r q (x ∙ sym y), refl) }
every «index::index::build» =
    record {
      keeps = λ M. index.index.build.Met.met;
      one = λ κs a r q ws vs x y.
          (whole_indexed r q (x.0 ∙ sym y.0), lent-index _ _ _ _ (x.1 ∙ sym y.1) (x.2 ∙ sym y.2));
      nothing = λ κs a r ws x f. (unwritten _ _ _ _ _ x.0 x.1 f, unwritten _ _ _ _ _ x.0 x.2 f);
    }
every «index::index::find» = record { keeps = λ M. index.index.find.Met.met; one = λ κs a r q ws vs x y. (whole-found-index r q (x ∙ sym y), refl) }
every writable::writable::row_at = record { keeps = λ M. writable.writable.row_at.Met.met; one = λ κs a r q ws vs x y. (x ∙ sym y, refl) }
every writable::writable::bytes_needed = record { keeps = λ M. writable.writable.bytes_needed.Met.met; one = λ κs a r q ws vs x y. (x ∙ sym y, refl) }
every «writable::writable::WritableErrorFromFault::from» = record { keeps = λ M. writable.writable.WritableErrorFromFault.from.Met.met; one = λ κs a r q ws vs x y. (x ∙ sym y, refl) }
every «writer::writer::write» =
    record {
      keeps = λ M. writer.writer.write.Met.met;
      one = λ κs a r q ws vs x y.
          (x.0 ∙ sym y.0, lent_output _ _ (x.1 ∙ ap (λ (w : Result ℕ WriteError). output_after w a.0 a.1.0.now a.1.1.0 a.1.1.1.0.now a.1.1.1.1.0.now) (x.0 ∙ sym y.0) ∙ sym y.1));
      nothing = λ κs a r ws x f. unwritten _ (paper_write r) _ _ _ refl x.1 f;
    }
every «writer::writer::WriteErrorFromWritableError::from» = record { keeps = λ M. writer.writer.WriteErrorFromWritableError.from.Met.met; one = λ κs a r q ws vs x y. (x ∙ sym y, refl) }
every held::step_at = record { keeps = λ M. held.step_at.Met.met; one = λ κs a r q ws vs x y. (whole-step r q (x.0 ∙ sym y.0) (x.1 ∙ sym y.1), refl) }
every «held::over» = record { keeps = λ M. held.over.Met.met; one = λ κs a r q ws vs x y. (one_walker r q (x.0 ∙ sym y.0) (x.1 ∙ sym y.1), refl) }
every «held::next» = record { keeps = λ M. held.next.Met.met; one = λ κs a r q ws vs x y. (whole-step r q (x.0 ∙ sym y.0) (x.1 ∙ sym y.1), refl) }
every «held::moved» = record { keeps = λ M. held.moved.Met.met; one = λ κs a r q ws vs x y. (one_walker r q (x.0 ∙ sym y.0) (x.1 ∙ sym y.1), refl) }
every held::step_from = record { keeps = λ M. held.step_from.Met.met; one = λ κs a r q ws vs x y. (whole-step r q (x.0 ∙ sym y.0) (x.1 ∙ sym y.1), refl) }
every held::row_is = record { keeps = λ M. held.row_is.Met.met; one = λ κs a r q ws vs x y. (x ∙ sym y, refl) }
every held::find_row = record { keeps = λ M. held.find_row.Met.met; one = λ κs a r q ws vs x y. (whole-pointer r q (x ∙ sym y), refl) }
every held::find_in = record { keeps = λ M. held.find_in.Met.met; one = λ κs a r q ws vs x y. (whole-pointer r q (x ∙ sym y), refl) }
every exports::blend_header = record { keeps = λ M. exports.blend_header.Met.met; one = λ κs a r q ws vs x y. (x ∙ sym y, refl) }
every exports::blend_read =
    record {
      keeps = λ M. exports.blend_read.Met.met;
      one = λ κs a r q ws vs x y. (x.0 ∙ sym y.0, lent ws.1.0 vs.1.0 (x.1 ∙ sym y.1));
      nothing = λ κs a r ws x f. read-unwritten a.0.now a.1.0.now r ws.1.0 x f;
    }
every exports::blend_step = record { keeps = λ M. exports.blend_step.Met.met; one = λ κs a r q ws vs x y. (x ∙ sym y, refl) }
every exports::blend_catalogue =
    record {
      keeps = λ M. exports.blend_catalogue.Met.met;
      one = λ κs a r q ws vs x y.
          (x.answer ∙ sym y.answer, filled _ _ _ _ _ _ _ _ (x.in_names ∙ sym y.in_names) (x.in_types ∙ sym y.in_types) (x.in_structs ∙ sym y.in_structs) (x.in_fields ∙ sym y.in_fields));
      nothing = λ κs a r ws x f.
          catalogue-unwritten a.0.now a.1.0 a.1.1.0.now a.1.1.1.0.now a.1.1.1.1.0.now a.1.1.1.1.1.0.now r ws.1.1.0 ws.1.1.1.0 ws.1.1.1.1.0 ws.1.1.1.1.1.0 x f;
    }
every exports::blend_field =
    record {
      keeps = λ M. exports.blend_field.Met.met;
      one = λ κs a r q ws vs x y. (x.0 ∙ sym y.0, lent ws.1.0 vs.1.0 (x.1 ∙ sym y.1));
      nothing = λ κs a r ws x f. field-unwritten a.0.now a.1.0.now r ws.1.0 x f;
    }
every exports::blend_width = record { keeps = λ M. exports.blend_width.Met.met; one = λ κs a r q ws vs x y. (x ∙ sym y, refl) }
every exports::blend_view = record { keeps = λ M. exports.blend_view.Met.met; one = λ κs a r q ws vs x y. (x ∙ sym y, refl) }
every exports::blend_lookup = record { keeps = λ M. exports.blend_lookup.Met.met; one = λ κs a r q ws vs x y. (x ∙ sym y, refl) }
every exports::blend_index =
    record {
      keeps = λ M. exports.blend_index.Met.met;
      one = λ κs a r q ws vs x y. (x.0 ∙ sym y.0, lent-index _ _ _ _ (x.1 ∙ sym y.1) (x.2 ∙ sym y.2));
      nothing = λ κs a r ws x f.
          index-unwritten a.0.now a.1.0 a.1.1.0 a.1.1.1.0.now a.1.1.1.1.0.now r ws.1.1.1.0 ws.1.1.1.1.0 x f;
    }
every exports::blend_find = record { keeps = λ M. exports.blend_find.Met.met; one = λ κs a r q ws vs x y. (x ∙ sym y, refl) }
every exports::blend_write =
    record {
      keeps = λ M. exports.blend_write.Met.met;
      one = λ κs a r q ws vs x y. (x.0 ∙ sym y.0, lent_written _ _ (x.1 ∙ sym y.1));
      nothing = λ κs a r ws x f.
          write-unwritten a.0 a.1.0 a.1.1.0 a.1.1.1.0 a.1.1.1.1.0 a.1.1.1.1.1.0.now a.1.1.1.1.1.1.0 a.1.1.1.1.1.1.1.0.now a.1.1.1.1.1.1.1.1.0.now r ws.1.1.1.1.1.1.1.1.0 x f;
    }
every exports::blend_u8 = record { keeps = λ M. exports.blend_u8.Met.met; one = λ κs a r q ws vs x y. (x ∙ sym y, refl) }
every exports::blend_u16 = record { keeps = λ M. exports.blend_u16.Met.met; one = λ κs a r q ws vs x y. (x ∙ sym y, refl) }
every exports::blend_u32 = record { keeps = λ M. exports.blend_u32.Met.met; one = λ κs a r q ws vs x y. (x ∙ sym y, refl) }
every exports::blend_u64 = record { keeps = λ M. exports.blend_u64.Met.met; one = λ κs a r q ws vs x y. (x ∙ sym y, refl) }
every «demands::read» =
    record {
      keeps = λ M. demands.read.Met.met;
      one = λ κs a r q ws vs x y. (whole-blend r q (x.0.0 ∙ sym y.0.0), lent ws.1.0 vs.1.0 (x.0.1 ∙ sym y.0.1));
      nothing = λ κs a r ws x f. blend-unwritten a.0.now a.1.0.now r ws.1.0 x.0 f;
    }
every demands::read_two =
    record {
      keeps = λ M. demands.read_two.Met.met;
      one = λ κs a r q ws vs x y. (one-two r q (whole-blend _ _ (x.0.0 ∙ sym y.0.0)) (whole-blend _ _ (x.1.0 ∙ sym y.1.0)), lent_two _ _ _ _ (x.0.1 ∙ sym y.0.1) (x.1.1 ∙ sym y.1.1));
      nothing = λ κs a r ws x. (
        λ f. blend-unwritten a.0.now a.1.0.now r.one ws.1.0 x.0 f,
        λ f. blend-unwritten a.1.1.0.now a.1.1.1.0.now r.other ws.1.1.1.0 x.1 f,
      );
    }
