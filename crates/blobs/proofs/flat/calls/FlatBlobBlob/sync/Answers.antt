use Rattle.blobs.proofs.Steps.{settled_synced}
use Rattle.blobs.proofs.flat.calls.FlatBlobBlob.sync.Goals as goal

pub returns-clause-means : goal.returns-clause-means
returns-clause-means c = settled_synced c.args.self.now _ _ c.settle.ensures
