-- What is left to show of `Written::words`.
use Rattle.std.proofs.Common.{sym, subst}
use Rattle.written.specs.Reading.{Readable}
use Rattle.written.proofs.written.Written.words.Goals as goal

pub returns-clause-reads : goal.returns-clause-reads
returns-clause-reads c = subst Readable (sym c.as_slice.ensures.value) c.args.self.now.reads
