use Rattle.std.proofs.Common.{arith}
use Rattle.std.proofs.lemmas.Grind.{common_steps}
use Rattle.blobs.proofs.Steps.{resized_changed}
use Rattle.blobs.proofs.flat.calls.FlatBlobBlob.resize.Goals as goal

pub returns-clause-means : goal.returns-clause-means
returns-clause-means c = resized_changed c.args.self.now _ _ (grind (arith, common_steps)) (omega arith)
