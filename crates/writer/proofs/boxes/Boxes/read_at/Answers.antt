use Rattle.std.proofs.Common.{◌≡◌, ◌+◌, ◌-◌, ◌++◌, length, take, drop, sym, ap, ◌∙◌, subst, ap₂, arith, length-take}
use Rattle.blob.specs.Bytes.{part}
use Rattle.blob.proofs.Areas.{content_part}
use Rattle.buffer.specs.declared.tip.Buffer.{Buffer}
use Rattle.buffer.specs.Tip.{below}
use Rattle.writer.specs.Steps.{Asked}
use Rattle.writer.proofs.Gathering.{half_length, both_parts}
use Rattle.writer.proofs.boxes.Boxes.read_at.Goals as goal

pub returns : goal.returns
returns g c =
    let disk = g.B.Blob.disk in
    let w = c.args.self.now in
    let tip = w.buffer in
    let content = (disk w.blob).content in
    let place = c.args.place in
    let out = c.args.out.now in
    let n = length out in
    let k = c.below-below.result in
    let kis = c.below-below.ensures in
    let e = c.in_ok-read_blob.ensures in
    let bytes = ap (λ (t : Buffer). t.bytes) e.rest.1 in
    let offset = ap (λ (t : Buffer). t.offset) e.rest.1 in
    let front = c.read_blob.new.out in
    let cut : length (take k out) ≡ k = length-take k out ∙ omega arith in
    let first : length front ≡ k = c.read_blob.auto.out ∙ cut in
    let half = front ++ drop k out in
    let long = half_length out front k (omega arith) first in
    let start = c.saturating_sub-start.result in
    let starts : start ≡ place - tip.offset = omega (arith, c.saturating_sub-start.ensures, c.offset.ensures) in
    let count : start + (length half - k) - start ≡ n - below tip place n = omega arith in
    let z = c.requires.0.sized in
    let room = c.requires.1 in
    let back =
    c.copy_from_slice.ensures.after
    ∙ c.slice.ensures
    ∙ ap (λ x. take (start + (length half - k) - start) (drop start x)) bytes
    ∙ ap₂ (λ p m. take m (drop p tip.bytes)) starts count
    ∙ sym (content_part tip.bytes tip.len (place - tip.offset) (n - below tip place n) (omega arith) (omega (arith, z.held, z.fits, z.most))) in
    record {
      bytes =
          both_parts out front k (omega arith) first c.copy_from_slice.new.self
          ∙ ap₂ (λ x y. x ++ y) (e.reads.0 ∙ ap (part content place) (cut ∙ kis)) back;
      blob = subst (λ m. Asked m (disk w.blob) (disk c.read_blob.new.self.blob)) (cut ∙ kis) e.reads.1;
      rest = cc;
    }
