use Rattle.std.proofs.Common.{refl}
use Rattle.art_lines.proofs.Common.{of_tenant, get}
use Rattle.callers.proofs.engine.is_get.Goals as goal

pub returns-in-Some-Get : goal.returns-in-Some-Get
returns-in-Some-Get c = λ _. (
  c.in-Some-Get.field-0-0,
  c.in-Some-Get.field-0-1.items,
  (c.in-Some-Get.ensures.spelled (of_tenant c.in-Some-Get.field-0-0 (get c.in-Some-Get.field-0-1.items))).0 (rw (c.in-Some-Get.field-0-is) refl),
)
