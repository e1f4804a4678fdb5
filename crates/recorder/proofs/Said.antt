-- What is said where `?` passes a refusal on.
use Rattle.std.proofs.Common.{◌≡◌, Result, Ok, Err, ap}
use Rattle.std.specs.Result.{IsErrAnd}
use Rattle.buffer.specs.declared.error.Error.{Error}
use Rattle.blobs.specs.declared.flat.StartError.{StartError}
use Rattle.recorder.specs.declared.answer.Answer.{Answer}
use Rattle.recorder.specs.declared.answer.Failure.{Failure}
use Rattle.recorder.specs.declared.answer.Failure.TheVariants.{Refused, BadStart}
use Rattle.recorder.specs.Session.{said, result_told, start_told}

pub said_refused : (r : Result Answer Failure) (e : Error) → IsErrAnd r (λ f. f ≡ Refused e) → said r ≡ Ok (result_told (Err e))
said_refused (Ok a) e h = elim h [ ]
said_refused (Err f) e h = ap (λ x. said (Err x)) h

pub said_bad_start : (r : Result Answer Failure) (e : StartError) → IsErrAnd r (λ f. f ≡ BadStart e) → said r ≡ Ok (start_told (Err e))
said_bad_start (Ok a) e h = elim h [ ]
said_bad_start (Err f) e h = ap (λ x. said (Err x)) h
