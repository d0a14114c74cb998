-- `bytes` moves as `skip` does: a tree that looks at bytes and does nothing with them finds what one finds that skips them.
use Rattle.octets.specs.Reader.{run}
use Rattle.octets.proofs.cursor.Cursor.bytes.Goals as goal

pub returns : goal.returns
unfolding run
returns c = c.skip.ensures
