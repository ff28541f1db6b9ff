-- What a connection does: by its open exchange, and by its link.
use Rattle.std.proofs.Common.{◌≡◌, ℕ, refl, Bool, true, false, not, None, Some}
use Rattle.proxy_engine.specs.Activities.{link_place_of_activity, has_exchange, is_forwarded_if_exchange}
use Rattle.proxy_engine.specs.declared.endpoints.activities.Activity.{Activity}
use Rattle.proxy_engine.specs.declared.endpoints.activities.Activity.TheVariants.{Free, Forwarded, Waiting}

-- without an open exchange it is free
pub free_from : (a : Activity) → has_exchange a ≡ false → a ≡ Free
free_from Free e = refl
free_from (Forwarded place) e = absurd (cc)
free_from Waiting e = absurd (cc)

-- with a link its exchange is open
pub open_from : (a : Activity) (place : ℕ) → link_place_of_activity a ≡ Some place → has_exchange a ≡ true
open_from Free place e = absurd (cc)
open_from (Forwarded other) place e = refl
open_from Waiting place e = absurd (cc)

-- and its request is at the origin
pub forwarded_from : (a : Activity) (place : ℕ) → link_place_of_activity a ≡ Some place → is_forwarded_if_exchange a ≡ Some true
forwarded_from Free place e = absurd (cc)
forwarded_from (Forwarded other) place e = refl
forwarded_from Waiting place e = absurd (cc)

-- without a link an open exchange waits
pub waiting_from : (a : Activity) → has_exchange a ≡ true → link_place_of_activity a ≡ None → a ≡ Waiting
waiting_from Free e l = absurd (cc)
waiting_from (Forwarded place) e l = absurd (cc)
waiting_from Waiting e l = refl

pub waiting_by : (a : Activity) → is_forwarded_if_exchange a ≡ Some false → a ≡ Waiting
waiting_by Free e = absurd (cc)
waiting_by (Forwarded place) e = absurd (cc)
waiting_by Waiting e = refl

pub not_so : (b : Bool) → not b ≡ true → b ≡ false
not_so true e = absurd (cc)
not_so false e = refl
