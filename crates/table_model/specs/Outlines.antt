-- What contracts see of an outline in memory.
use Rattle.serde_json.specs.View.{items_view}
use Rattle.table_model.specs.Document.{Outline}
use Rattle.table_model.specs.declared.document.Outline.{Outline as Held}

abbrev pub outline_shown : Held → Outline
outline_shown o = record { root_value = o.root_value; layers = items_view o.layers.now }
