use Rattle.std.proofs.Common.{inl}
use Rattle.blobs.proofs.Steps.{settled_synced}
use Rattle.blobs.proofs.flat.calls.FlatBlobBlob.finish_sync.Goals as goal

pub returns-in-Started-clause-means : goal.returns-in-Started-clause-means
returns-in-Started-clause-means c = inl (c.in-Started.is, settled_synced c.args.self.now _ _ c.settle.ensures)
