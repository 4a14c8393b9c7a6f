-- What a sink in memory tells. Own.
use Rattle.std.specs.Prelude.{◌≡◌, true, [], Result}
use Rattle.offer_io.specs.declared.sinks.MemorySink.{MemorySink}
use Rattle.offer_io.specs.Plans.{CallPlan, plan_after}
use Rattle.offer_io.specs.Causes.{count_after}
use Rattle.offer_io.specs.Sinks.{SinkView}

-- A sink in memory tells its bytes.
abbrev pub memory_sink_view : MemorySink → SinkView
memory_sink_view s = record { tells = true; bytes = s.bytes.items; faults = s.faults }

-- The calls of a sink in memory that were given to fail.
abbrev pub sink_plan : MemorySink → CallPlan
sink_plan s = s.plan

-- A write was counted: it took the next number, and the count of faults rose exactly where it failed.
pub record CountsWrite {T E : Type 0} (old : MemorySink) (result : Result T E) (new : MemorySink) : Type 0 where
  pub plan : sink_plan new ≡ plan_after (sink_plan old)
  pub faults : (memory_sink_view new).faults ≡ count_after result (memory_sink_view old).faults

-- A sink in memory to which nothing was written.
abbrev pub empty_sink : SinkView
empty_sink = record { tells = true; bytes = []; faults = 0 }
