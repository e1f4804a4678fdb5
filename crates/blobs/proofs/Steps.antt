-- What the flat blob's calls make of its record is what a blob's calls mean.
use Rattle.std.proofs.Common.{◌≡◌, ℕ, ◌+◌, ◌<◌, ◌≤◌, List, length, take, refl, ap, arith}
use Rattle.blob.specs.Bytes.{laid, resized}
use Rattle.blob.specs.Meaning.{Changed, Filled, Synced}
use Rattle.blob.specs.declared.StartedSync.{StartedSync}
use Rattle.blob.proofs.Bytes.{mixed_old}
use Rattle.blob.proofs.Areas.{lay_content, lay_behind, resize_content, resize_behind, copy_content, copy_durable}
use Rattle.blobs.specs.declared.flat.FlatBlob.{FlatBlob}
use Rattle.blobs.specs.Flat.{Flat, disk_of, wrote, resized_to, settled}
use Rattle.blobs.specs.Shape.{shape}

module _ (b : FlatBlob) (g : Flat) where
  -- a sync
  pub settled_synced : (after : StartedSync) → g ≡ settled (shape b) after → Synced (disk_of (shape b)) (disk_of g) after
  settled_synced after is =
      let ok = b.area.ok.0 in
      rw is
      (record {
        content = copy_content b.area.items b.len b.limit b.content_fits (omega arith);
        durable = copy_durable b.area.items b.len b.limit b.content_fits (omega arith);
        started = refl;
        lasts = record { limit = refl; sound = λ h. refl };
      })

  -- a resize
  pub resized_changed : (n : ℕ) → g ≡ resized_to (shape b) n → n ≤ b.limit → (n ≤ b.limit) × Changed (disk_of (shape b)) (resized (take b.len b.area.items) n) (disk_of g)
  resized_changed n is within =
      let ok = b.area.ok.0 in
      rw is (
        within,
        record {
          content = resize_content b.area.items b.len n (omega arith) (omega arith);
          durable = mixed_old _ _ _ (ap (take b.durable_len) (resize_behind b.area.items b.len n (omega arith) (omega arith) b.limit b.content_fits within));
          started = refl;
          lasts = record { limit = refl; sound = λ h. refl };
        },
      )

  -- a write
  pub wrote_changed : (p : ℕ) (bs : List ℕ) → g ≡ wrote (shape b) p bs → 0 < length bs → p + length bs ≤ b.limit → Filled (disk_of (shape b)) p bs (Changed (disk_of (shape b)) (laid (take b.len b.area.items) p bs) (disk_of g))
  wrote_changed p bs is filled within =
      let ok = b.area.ok.0 in
      rw is (record {
        filled = filled;
        within = within;
        result = record {
          content = lay_content b.area.items b.len p bs (omega arith) (omega arith) filled _ refl;
          durable = mixed_old _ _ _ (ap (take b.durable_len) (lay_behind b.area.items b.len p bs (omega arith) (omega arith) filled b.limit b.content_fits within));
          started = refl;
          lasts = record { limit = refl; sound = λ h. refl };
        };
      })
