-- What a device counts.
use Rattle.hpb_outside.specs.Faults.{raised}
use Rattle.flash_store.specs.declared.answers.Moved.{Moved}
use Rattle.flash_store.specs.declared.answers.Moved.TheVariants.{Page, Erased}
use Rattle.hpb_device.specs.declared.counts.Counts.{Counts}
use Rattle.hpb_device.specs.declared.advance.FailedCall.TheVariants.{MappedRead}
use Rattle.hpb_device.specs.declared.advance.Progress.{Progress}
use Rattle.hpb_device.specs.declared.advance.Progress.TheVariants.{Sends, Silent, Failed}
use Rattle.hpb_device.specs.declared.advance.Transfer.TheVariants.{LookedUp, ByEntry}
use Rattle.hpb_device.specs.declared.advance.Internal.TheVariants.{Collected}

-- nothing is counted yet
abbrev pub no_counts : Counts
no_counts = record { steps = 0; lookups = 0; entries = 0; moved = 0; erased = 0 }

-- one more step was made
abbrev pub counted_step : Counts → Counts
counted_step counts = record counts { steps = raised counts.steps }

-- the collector made a step
abbrev pub counted_moved : Counts → Moved → Counts
counted_moved counts (Page lun lba) = record counts { moved = raised counts.moved }
counted_moved counts (Erased block) = record counts { erased = raised counts.erased }
counted_moved counts _ = counts

-- what a step came to, but for the step itself: a read of a block that was looked up counts the look-up where it fails
-- too, and no other failed call counts one
abbrev pub counted_progress : Counts → Progress → Counts
counted_progress counts (Sends LookedUp rest) = record counts { lookups = raised counts.lookups }
counted_progress counts (Sends ByEntry rest) = record counts { entries = raised counts.entries }
counted_progress counts (Silent (Collected moved) rest) = counted_moved counts moved
counted_progress counts (Failed MappedRead reply) = record counts { lookups = raised counts.lookups }
counted_progress counts _ = counts

abbrev pub counted : Counts → Progress → Counts
counted counts progress = counted_progress (counted_step counts) progress
