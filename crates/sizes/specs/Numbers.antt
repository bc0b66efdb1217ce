-- The numbers of the hardware.
use Rattle.std.specs.Prelude.{◌≡◌}
use Rattle.sizes.specs.declared.TheConstants.{LANES, LANE_DEPTH, WAVES, COPY_PLACES, PENDING_REQUESTS, LINES, KEPT_STAMPS, WORDS, LONGEST_LIFETIME, LAST_TICK}

-- what each size is: a constant that changed would change code and definitions together, but not this
pub record Numbers : Type 0 where
  pub lanes : LANES ≡ 16
  pub lane_depth : LANE_DEPTH ≡ 64
  pub waves : WAVES ≡ 48
  pub copy_places : COPY_PLACES ≡ 64
  pub pending_requests : PENDING_REQUESTS ≡ 32
  pub lines : LINES ≡ 256
  pub kept_stamps : KEPT_STAMPS ≡ 128
  pub words : WORDS ≡ 4096
  pub longest_lifetime : LONGEST_LIFETIME ≡ 4096
  pub last_tick : LAST_TICK ≡ 4294963199
