use Rattle.std.proofs.Common.{◌++◌, codes, decimal, sym, ap, ◌∙◌}
use Rattle.buffer.specs.Numbers.{number, text}
use Rattle.buffer.proofs.error.ErrorDisplay.fmt.Goals as goal

pub returns-in-BlobInsufficientLength-clause-writes : goal.returns-in-BlobInsufficientLength-clause-writes
returns-in-BlobInsufficientLength-clause-writes g c =
    let is = c.in-BlobInsufficientLength.is in
    rw (ap text is ∙ ap (λ n. decimal n ++ codes " BlobInsufficientLength") (sym (c.number-n.ensures ∙ ap number is))) c.write-in-BlobInsufficientLength.ensures.writes
