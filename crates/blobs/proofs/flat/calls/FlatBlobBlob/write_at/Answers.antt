use Rattle.std.proofs.Common.{inr, rules}
use Rattle.blobs.proofs.Steps.{wrote_changed}
use Rattle.blobs.proofs.flat.calls.FlatBlobBlob.write_at.Goals as goal

pub returns-clause-means : goal.returns-clause-means
returns-clause-means c = inr (wrote_changed c.args.self.now _ _ _ c.lay.ensures (search rules) (search rules))
