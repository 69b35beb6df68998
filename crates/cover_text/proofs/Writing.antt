-- What is in memory can be written where its bounds can.
use Rattle.std.proofs.Common.{◌<◌, ◌^◌, List, [], ◌∷◌, length}
use Rattle.bound_cover.specs.Clamping.{IsWritable, AreWritable}
use Rattle.bound_cover.specs.Covers.{CoverRow}
use Rattle.dp_model.specs.Lists.{Each}
use Rattle.cover_text.specs.Written.{IsKeptRow, IsKeptLayer, IsWrittenRow, IsWrittenLayer, IsWritten}

rows-written : (rows : List CoverRow) → Each IsKeptRow rows → Each (λ (row : CoverRow). IsWritable row.bound) rows → Each IsWrittenRow rows
rows-written [] kept bounds = tt
rows-written (row ∷ rows) kept bounds = (record { bound = bounds.0; words = kept.0.words; arcs = kept.0.arcs }, rows-written rows kept.1 bounds.1)

layers-written : (layers : List (List CoverRow)) → Each IsKeptLayer layers → AreWritable layers → Each IsWrittenLayer layers
layers-written [] kept bounds = tt
layers-written (layer ∷ layers) kept bounds = (record { few = kept.0.few; rows = rows-written layer kept.0.rows bounds.0 }, layers-written layers kept.1 bounds.1)

pub written : (cover : List (List CoverRow)) → length cover < 2 ^ 64 → Each IsKeptLayer cover → AreWritable cover → IsWritten cover
written cover few kept bounds = record { few = few; layers = layers-written cover kept bounds }
