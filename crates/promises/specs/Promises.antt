-- What is promised, as one record: an auditor reads this page first, and the definitions that it names after it. proofs/Promises.antt has one closed term of it, which
-- the check has checked.
use Rattle.demands.specs.Cover.{EveryBlock, EveryBlockExported, EveryBlockWalked, EveryBlockHeld}
use Rattle.demands.specs.Unaltered.{NoOtherObject, NoOtherObjectExported, NoOtherObjectWalked, NoOtherObjectHeld}
use Rattle.demands.specs.Sentences.{WalksAsRead, HeldWalksAsRead, OneSearch, IndexAsPlain, BrokenNames, WidthsExported, FloatBits, CodeBytes, Names}
use Rattle.demands.specs.Malformed.{WhereTwoWas, CutUpload, StepsExported, PapersLoseNothing}
use Rattle.demands.specs.Examples.{AtTheEdges, ScenesAreRead}
use Rattle.roundtrip.specs.Written.{NumbersWritten, RestKept, WrittenIsRead, WrittenIsCovered, ReadAndWritten, WrittenAgain}
use Rattle.promises.specs.Keeps.{Holds}
use Rattle.promises.specs.Calls.{PublicCall, public_call}

pub record Promises : Type 2 where
  -- every public call takes every input, ends, and keeps its contract; the contract leaves one outcome; and a refused call has written nothing
  pub every_call : (c : PublicCall) → Holds (public_call c)
  -- in a file that is read, header, block headers, payloads and end mark cover the file up to the end of that mark, each byte once, in order
  pub every-block : EveryBlock
  pub every-block_exported : EveryBlockExported
  pub every-block-walked : EveryBlockWalked
  pub every-block-held : EveryBlockHeld
  -- a second file that differs only inside payloads of blocks other than DNA1, or in any way after the end mark, is read too: same header, same rows, same catalogue,
  -- same index, and every untouched payload shows the same bytes
  pub no_other_object : NoOtherObject
  pub no_other_object_exported : NoOtherObjectExported
  pub no_other_object_walked : NoOtherObjectWalked
  pub no_other_object_held : NoOtherObjectHeld
  -- a walk from the start gives the reader's rows, and then its end or its refusal
  pub walks_as_read : WalksAsRead
  pub held-walks_as_read : HeldWalksAsRead
  -- the search over row records answers as the one over numbers
  pub one-search : OneSearch
  -- through an index that was built from these rows the search answers as the plain one does
  pub index-as_plain : IndexAsPlain
  -- a name that is not fully read has no width, and a whole one the width that it had before that was asked; for other languages too
  pub broken-names : BrokenNames
  pub widths_exported : WidthsExported
  -- why a file is malformed, and where: 16 and 17 together come where 2 did; a file that is read and then cut is told as cut, never by a wrong mark; nothing of a fault is lost when it
  -- is told; and for other languages the steps of a walk come to the same rows, and to the same end or fault, as the reading
  pub where_two_was : WhereTwoWas
  pub cut_upload : CutUpload
  pub papers_lose_nothing : PapersLoseNothing
  pub steps_exported : StepsExported
  -- what was written is read, with the same header and catalogue, the same code, address, index and count in each row, the same payload bytes, and the offsets of the new
  -- file, and header, block headers, payloads and end mark cover it; a Legacy file with three version digits that is read and written again has the same bytes up to the end of
  -- the end mark; and so has, in every form, what was written, read and written again. What the output held after the written length it holds still; and the bytes of
  -- a number spell it, and bytes are those of the number that they spell
  pub written-is-read : WrittenIsRead
  pub rest-kept : RestKept
  pub numbers-written : NumbersWritten
  pub written-is-covered : WrittenIsCovered
  pub read_and_written : ReadAndWritten
  pub written-again : WrittenAgain
  -- the bits of a float are those that were read, the bytes of a code those that it was read from, and the names are the Rust's
  pub float-bits : FloatBits
  pub code-bytes : CodeBytes
  pub names : Names
  -- document 01's examples at the edges; and the rules do read scenes, in every form
  pub at_the_edges : AtTheEdges
  pub scenes_are_read : ScenesAreRead
