use Rattle.std.proofs.Common.{rules, codes, ap, sym}
use Rattle.std.proofs.lemmas.Slice.Eq.{text_from_reads}
use Rattle.job.specs.Forms.{verb}
use Rattle.job.proofs.forms.Verb.named.Goals as goal

pub returns-in-connect : goal.returns-in-connect
returns-in-connect c = ap verb (sym (text_from_reads c.args.word.now (codes "connect") (search rules) (search rules)))
