-- A log that was loaded.
use Rattle.std.specs.Prelude.{map}
use Rattle.tq_gate.specs.declared.loading.Loaded.{Loaded}
use Rattle.tq_gate.specs.Reading.{Content}

-- the content that was loaded
abbrev pub content_of : Loaded → Content
content_of loaded = record { base = loaded.base.items; payloads = map (λ v. v.items) loaded.payloads.items }
