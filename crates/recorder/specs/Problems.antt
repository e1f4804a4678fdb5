-- What is printed of a problem.
use Rattle.std.specs.Prelude.{ℕ, List, codes}
use Rattle.call_list.specs.Phrases.{phrase}
use Rattle.recorder.specs.declared.answer.Problem.{Problem}
use Rattle.recorder.specs.declared.answer.Problem.TheVariants.{Line, NoBlob, NoWriter, BlobHeld, UnequalImages, OutOfMemory}

abbrev pub words : Problem → List ℕ
words (Line mistake) = phrase mistake
words NoBlob = codes "there is no blob"
words NoWriter = codes "there is no writer"
words BlobHeld = codes "a writer holds the blob"
words UnequalImages = codes "the content and the durable image differ in length"
words OutOfMemory = codes "memory cannot hold it"
