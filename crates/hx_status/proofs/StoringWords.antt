-- The word of an answer that isn't stored is made of its rule's.
use Rattle.std.proofs.Common.{refl}
use Rattle.hx_storable.specs.declared.rule.StoreRule.TheVariants.{Operator, Method, Bypass, Status, MustUnderstand, ResponseNoStore, RequestNoStore, Private, Authorization, NothingAllows, VaryStar, ConnectionField, NothingToReuse, TooLarge, Overtaken, Serials, SetCookie, ErrorStatus, RequestCookie}
use Rattle.hx_status.specs.Member.{NotStoredNamesTheRule}

pub shown_with_the_rule : NotStoredNamesTheRule
shown_with_the_rule Operator = refl
shown_with_the_rule Method = refl
shown_with_the_rule Bypass = refl
shown_with_the_rule Status = refl
shown_with_the_rule MustUnderstand = refl
shown_with_the_rule ResponseNoStore = refl
shown_with_the_rule RequestNoStore = refl
shown_with_the_rule Private = refl
shown_with_the_rule Authorization = refl
shown_with_the_rule NothingAllows = refl
shown_with_the_rule VaryStar = refl
shown_with_the_rule ConnectionField = refl
shown_with_the_rule NothingToReuse = refl
shown_with_the_rule TooLarge = refl
shown_with_the_rule Overtaken = refl
shown_with_the_rule Serials = refl
shown_with_the_rule SetCookie = refl
shown_with_the_rule ErrorStatus = refl
shown_with_the_rule RequestCookie = refl
