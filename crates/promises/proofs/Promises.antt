-- The promises, kept.
use Rattle.demands.proofs.Cover.{every-block}
use Rattle.demands.proofs.Unaltered.{no_other_object}
use Rattle.demands.proofs.Exported.{every-block_exported, no_other_object_exported}
use Rattle.demands.proofs.Walked.{every-block-walked, every-block-held, no_other_object_walked, no_other_object_held}
use Rattle.demands.proofs.Indexes.{index-as_plain}
use Rattle.demands.proofs.Sentences.{walks_as_read, held-walks_as_read, one-search, float-bits-read, code-bytes, names}
use Rattle.demands.proofs.Widths.{broken-names, widths_exported}
use Rattle.demands.proofs.Malformed.{where_two_was}
use Rattle.demands.proofs.CutUpload.{cut_upload}
use Rattle.demands.proofs.Steps.{papers_lose_nothing, steps_exported}
use Rattle.demands.proofs.Examples.{at_the_edges, scenes_are_read}
use Rattle.roundtrip.proofs.Written.{rest-kept, numbers-written, written-is-read, written-is-covered, read_and_written, written-again}
use Rattle.promises.specs.Promises.{Promises}
use Rattle.promises.proofs.Calls.{every}

pub promises : Promises
promises =
    record {
      every_call = every;
      every-block = every-block;
      every-block_exported = every-block_exported;
      every-block-walked = every-block-walked;
      every-block-held = every-block-held;
      no_other_object = no_other_object;
      no_other_object_exported = no_other_object_exported;
      no_other_object_walked = no_other_object_walked;
      no_other_object_held = no_other_object_held;
      walks_as_read = walks_as_read;
      held-walks_as_read = held-walks_as_read;
      one-search = one-search;
      index-as_plain = index-as_plain;
      broken-names = broken-names;
      widths_exported = widths_exported;
      where_two_was = where_two_was;
      cut_upload = cut_upload;
      papers_lose_nothing = papers_lose_nothing;
      steps_exported = steps_exported;
      written-is-read = written-is-read;
      rest-kept = rest-kept;
      numbers-written = numbers-written;
      written-is-covered = written-is-covered;
      read_and_written = read_and_written;
      written-again = written-again;
      float-bits = float-bits-read;
      code-bytes = code-bytes;
      names = names;
      at_the_edges = at_the_edges;
      scenes_are_read = scenes_are_read;
    }
