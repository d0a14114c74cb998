-- Wrong readings, each in the place of `file_by`: the demands do not hold of them (proofs/Wrong.antt).
use Rattle.std.specs.Prelude.{ℕ, ◌-◌, true, false, List, [], ◌∷◌, map, eqb, get_or}
use Rattle.octets.specs.declared.Fault.TheVariants.{Mark}
use Rattle.octets.specs.Reader.{Reader, Outcome}
use Rattle.octets.specs.Reader.Outcome.{read, fault}
use Rattle.dna.specs.declared.dna.DnaCounts.{DnaCounts}
use Rattle.block.specs.declared.Row.{Row}
use Rattle.block.specs.Rows.{payload_of, none}
use Rattle.blend.specs.Chain.{File, file_by}
use Rattle.header.specs.Header.{HeaderBytes}

-- one that looks at a payload's byte: it refuses a file whose first block's payload begins with a zero
abbrev peek : List ℕ → Outcome File → Outcome File
peek s (read f at) = elim (eqb (get_or (payload_of s (get_or f.chain.rows 0 none)) 0 1) 0) [ true ↦ fault (Mark 0) | false ↦ read f at ]
peek s (fault x) = fault x

abbrev pub peeking_by : Reader HeaderBytes → List ℕ → Outcome File
peeking_by header s = peek s (file_by header s)

-- one whose rows are a byte too short
abbrev shorter : Row → Row
shorter r = record { code = r.code; address = r.address; index = r.index; count = r.count; at = r.at; payload = r.payload; len = r.len - 1 }

abbrev shorten : Outcome File → Outcome File
shorten (read f at) = read (record { header = f.header; chain = record { rows = map shorter f.chain.rows; last = f.chain.last } }) at
shorten (fault x) = fault x

abbrev pub short_by : Reader HeaderBytes → List ℕ → Outcome File
short_by header s = shorten (file_by header s)

-- one whose end offset forgets the end mark
abbrev before : Outcome DnaCounts → Outcome DnaCounts
before (read n end) = read n (end - 4)
before (fault x) = fault x

abbrev unmark : Outcome File → Outcome File
unmark (read f at) = read (record { header = f.header; chain = record { rows = f.chain.rows; last = before f.chain.last } }) at
unmark (fault x) = fault x

abbrev pub unmarked_by : Reader HeaderBytes → List ℕ → Outcome File
unmarked_by header s = unmark (file_by header s)

-- one that reads the first block again in the place of the second
abbrev again : List Row → List Row
again [] = []
again (r ∷ []) = r ∷ []
again (r ∷ q ∷ rs) = r ∷ r ∷ rs

abbrev repeat : Outcome File → Outcome File
repeat (read f at) = read (record { header = f.header; chain = record { rows = again f.chain.rows; last = f.chain.last } }) at
repeat (fault x) = fault x

abbrev pub repeating_by : Reader HeaderBytes → List ℕ → Outcome File
repeating_by header s = repeat (file_by header s)
